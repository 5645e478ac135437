-- Negative vote weight by the statutes up to 2008: the stages that they share, and the allocations of each.
use Rattle.std.proofs.Common.{◌≡◌, ℕ, true, false, List, [], ◌∷◌, arith, refl}
use Rattle.std.specs.Prelude.{codes}
use Rattle.sl_base_quotients.specs.declared.method.Divisor.TheVariants.{Webster, Jefferson}
use Rattle.sl_base_quotients.specs.declared.method.Method.{Method}
use Rattle.sl_base_quotients.specs.declared.method.Method.TheVariants as by
use Rattle.sl_law_meaning.specs.declared.book.Majority.{Majority}
use Rattle.sl_law_meaning.specs.declared.book.Majority.TheVariants as majority
use Rattle.sl_law_meaning.specs.declared.fact.Fact.TheVariants as facts
use Rattle.sl_law_meaning.specs.book.Trees.{BookTree}
use Rattle.sl_law_meaning.specs.book.Typing.{is_typed}
use Rattle.sl_law_meaning.specs.methods.Ties.{Decided, IsChoice}
use Rattle.sl_law_meaning.specs.returns.Election.{IsElection, with_list}
use Rattle.sl_law_meaning.specs.meaning.Results.{Column, plain}
use Rattle.sl_law_meaning.specs.meaning.Splits.{Seats, award_of, IsAllocation}
use Rattle.sl_law_meaning.specs.meaning.Means.{nothing_known, context_of}
use Rattle.sl_law_meaning.proofs.Elections.{is_with_list, is_with_win}
use Rattle.sl_law_meaning.proofs.meaning.PlainRuns.{to_means, then_plain}
use Rattle.sl_law_statutes.specs.Trees.{number, common, pool, shares, keep}
use Rattle.sl_law_examples.specs.VotesThatCost.{votes, winner, Gives, with_overhang, VoteCosts, VoteCostsByOverhang}
use Rattle.sl_law_examples.proofs.SmallReturns.{are_votes, is_winner, is_two_by_two, gives, undisputed, undisputed_remainders}

are_returns : IsElection with_overhang
are_returns =
    let parties = is_two_by_two 5 2 2 (omega arith) (omega arith) (omega arith) (omega arith) in
    let one = is_with_list _ 0 0 (votes 1) parties (omega arith) (omega arith) (are_votes 1 (omega arith)) in
    let two = is_with_list _ 0 1 (votes 1) one (omega arith) (omega arith) (are_votes 1 (omega arith)) in
    let three = is_with_list _ 1 0 (votes 2) two (omega arith) (omega arith) (are_votes 2 (omega arith)) in
    let x1 = is_with_win _ (codes "x1") (winner 0 0) three refl (is_winner 2 2 0 0 (omega arith) (omega arith)) in
    is_with_win _ (codes "x2") (winner 0 0) x1 refl (is_winner 2 2 0 0 (omega arith) (omega arith))

-- the book of three statutes, but for its title, its house, its method and its majority clause
abbrev law_of : (ℕ → ℕ) → List ℕ → ℕ → Method → Majority → BookTree
law_of at title seats method m = record {
  version = number at 2 35;
  law = title;
  house = number at seats 36;
  eligible = common at;
  stages = shares at facts.Outside method m;
  last = keep at;
}

-- these are the seats of that amount by those votes
abbrev pub Chosen : Method → Majority → List ℕ → List ℕ → ℕ → List ℕ → Type 0
Chosen method m v min seats s = IsChoice (IsAllocation method m v min seats) [] (Decided s)

-- what is allocated before and after
record AreAllocated (method : Method) (m : Majority) : Type 0 where
  pub parties : Chosen method m (3 ∷ 1 ∷ []) (0 ∷ 0 ∷ []) 5 (4 ∷ 1 ∷ [])
  pub lists : Chosen method majority.Free (1 ∷ 2 ∷ []) (0 ∷ 0 ∷ []) 4 (1 ∷ 3 ∷ [])
  pub alone : Chosen method majority.Free (1 ∷ []) (0 ∷ []) 1 (1 ∷ [])
  pub more_parties : Chosen method m (4 ∷ 1 ∷ []) (0 ∷ 0 ∷ []) 5 (4 ∷ 1 ∷ [])
  pub more_lists : Chosen method majority.Free (2 ∷ 2 ∷ []) (0 ∷ 0 ∷ []) 4 (2 ∷ 2 ∷ [])

-- no majority is deprived
record AreNotRefused (m : Majority) : Type 0 where
  pub parties : Seats (4 ∷ 1 ∷ []) ≡ award_of [] m (3 ∷ 1 ∷ []) 5 (Decided (4 ∷ 1 ∷ []))
  pub more_parties : Seats (4 ∷ 1 ∷ []) ≡ award_of [] m (4 ∷ 1 ∷ []) 5 (Decided (4 ∷ 1 ∷ []))

module _ (at : ℕ → ℕ) (title : List ℕ) (seats : ℕ) (method : Method) (m : Majority) (typed : is_typed (law_of at title seats method m) ≡ true) (given : AreAllocated method m) (stand : AreNotRefused m) where
  -- of A's four seats its list in X has one and keeps two winners
  before : Gives (law_of at title seats method m) with_overhang (5 ∷ 1 ∷ [])
  before =
      let b = law_of at title seats method m in
      gives (law_of at title seats method m) with_overhang typed are_returns refl _ (
        plain (5 ∷ []),
        to_means b with_overhang (context_of nothing_known (pool at facts.Outside)) (pool at facts.Outside).expr refl (5 ∷ []) (5 ∷ [], 0 ∷ [], refl, (0 ∷ 0 ∷ [], refl, refl), refl),
        (
          Column (4 ∷ 1 ∷ []) _,
          then_plain _ _ _ (5 ∷ []) (_, refl, refl)
              (then_plain _ _ _ (3 ∷ 1 ∷ []) (then_plain _ _ _ (1 ∷ 1 ∷ 2 ∷ 0 ∷ []) (_, refl, refl) refl)
              (record { awards = Seats (4 ∷ 1 ∷ []) ∷ []; each = (record { choice = Decided (4 ∷ 1 ∷ []); chosen = given.parties; is = stand.parties }, tt); is = refl })),
          (
            Column (1 ∷ 1 ∷ 3 ∷ 0 ∷ []) _,
            then_plain _ _ _ (4 ∷ 1 ∷ []) (_, refl, refl)
                (then_plain _ _ _ (1 ∷ 1 ∷ 2 ∷ 0 ∷ []) (_, refl, refl)
                (record {
                  awards = Seats (1 ∷ 3 ∷ []) ∷ Seats (1 ∷ []) ∷ [];
                  each = (record { choice = Decided (1 ∷ 3 ∷ []); chosen = given.lists; is = refl }, (record { choice = Decided (1 ∷ []); chosen = given.alone; is = refl }, tt));
                  is = refl;
                })),
            refl,
          ),
        ),
      ) (1 ∷ 1 ∷ 3 ∷ 0 ∷ []) refl (5 ∷ 1 ∷ []) refl

  -- with one vote more it has two of them, and as many winners
  after : Gives (law_of at title seats method m) (with_list with_overhang 0 0 (votes 2)) (4 ∷ 1 ∷ [])
  after =
      let b = law_of at title seats method m in
      let e = with_list with_overhang 0 0 (votes 2) in
      gives (law_of at title seats method m) (with_list with_overhang 0 0 (votes 2)) typed
      (is_with_list with_overhang 0 0 (votes 2) are_returns (omega arith) (omega arith) (are_votes 2 (omega arith))) refl _ (
        plain (5 ∷ []),
        to_means b e (context_of nothing_known (pool at facts.Outside)) (pool at facts.Outside).expr refl (5 ∷ []) (5 ∷ [], 0 ∷ [], refl, (0 ∷ 0 ∷ [], refl, refl), refl),
        (
          Column (4 ∷ 1 ∷ []) _,
          then_plain _ _ _ (5 ∷ []) (_, refl, refl)
              (then_plain _ _ _ (4 ∷ 1 ∷ []) (then_plain _ _ _ (2 ∷ 1 ∷ 2 ∷ 0 ∷ []) (_, refl, refl) refl)
              (record { awards = Seats (4 ∷ 1 ∷ []) ∷ []; each = (record { choice = Decided (4 ∷ 1 ∷ []); chosen = given.more_parties; is = stand.more_parties }, tt); is = refl })),
          (
            Column (2 ∷ 1 ∷ 2 ∷ 0 ∷ []) _,
            then_plain _ _ _ (4 ∷ 1 ∷ []) (_, refl, refl)
                (then_plain _ _ _ (2 ∷ 1 ∷ 2 ∷ 0 ∷ []) (_, refl, refl)
                (record {
                  awards = Seats (2 ∷ 2 ∷ []) ∷ Seats (1 ∷ []) ∷ [];
                  each = (record { choice = Decided (2 ∷ 2 ∷ []); chosen = given.more_lists; is = refl }, (record { choice = Decided (1 ∷ []); chosen = given.alone; is = refl }, tt));
                  is = refl;
                })),
            refl,
          ),
        ),
      ) (2 ∷ 1 ∷ 2 ∷ 0 ∷ []) refl (4 ∷ 1 ∷ []) refl

  costs : VoteCosts (law_of at title seats method m)
  costs = record {
    returns = are_returns;
    gain = record { before = votes 1; had = refl; is = are_votes 2 (omega arith); counted = omega arith; valid = omega arith };
    had = before;
    have = after;
  }

-- ---- the three methods

by_jefferson : AreAllocated (by.Divisor Jefferson) majority.Free
by_jefferson = record {
  parties = undisputed Jefferson (3 ∷ 1 ∷ []) (0 ∷ 0 ∷ []) (4 ∷ 1 ∷ []) refl refl refl [];
  lists = undisputed Jefferson (1 ∷ 2 ∷ []) (0 ∷ 0 ∷ []) (1 ∷ 3 ∷ []) refl refl refl [];
  alone = undisputed Jefferson (1 ∷ []) (0 ∷ []) (1 ∷ []) refl refl refl [];
  more_parties = undisputed Jefferson (4 ∷ 1 ∷ []) (0 ∷ 0 ∷ []) (4 ∷ 1 ∷ []) refl refl refl [];
  more_lists = undisputed Jefferson (2 ∷ 2 ∷ []) (0 ∷ 0 ∷ []) (2 ∷ 2 ∷ []) refl refl refl [];
}

by_hamilton : AreAllocated by.Hamilton majority.Prefer
by_hamilton = record {
  parties = undisputed_remainders true (3 ∷ 1 ∷ []) (4 ∷ 1 ∷ []) refl refl [];
  lists = undisputed_remainders false (1 ∷ 2 ∷ []) (1 ∷ 3 ∷ []) refl refl [];
  alone = undisputed_remainders false (1 ∷ []) (1 ∷ []) refl refl [];
  more_parties = undisputed_remainders true (4 ∷ 1 ∷ []) (4 ∷ 1 ∷ []) refl refl [];
  more_lists = undisputed_remainders false (2 ∷ 2 ∷ []) (2 ∷ 2 ∷ []) refl refl [];
}

by_webster : AreAllocated (by.Divisor Webster) majority.Refuse
by_webster = record {
  parties = undisputed Webster (3 ∷ 1 ∷ []) (0 ∷ 0 ∷ []) (4 ∷ 1 ∷ []) refl refl refl [];
  lists = undisputed Webster (1 ∷ 2 ∷ []) (0 ∷ 0 ∷ []) (1 ∷ 3 ∷ []) refl refl refl [];
  alone = undisputed Webster (1 ∷ []) (0 ∷ []) (1 ∷ []) refl refl refl [];
  more_parties = undisputed Webster (4 ∷ 1 ∷ []) (0 ∷ 0 ∷ []) (4 ∷ 1 ∷ []) refl refl refl [];
  more_lists = undisputed Webster (2 ∷ 2 ∷ []) (0 ∷ 0 ∷ []) (2 ∷ 2 ∷ []) refl refl refl [];
}

pub vote_costs_by_overhang : VoteCostsByOverhang
vote_costs_by_overhang at = (
  costs at (codes "Bundeswahlgesetz 1956") 494 (by.Divisor Jefferson) majority.Free refl by_jefferson (record { parties = refl; more_parties = refl }),
  costs at (codes "Bundeswahlgesetz 1985") 496 by.Hamilton majority.Prefer refl by_hamilton (record { parties = refl; more_parties = refl }),
  costs at (codes "Bundeswahlgesetz 2008") 598 (by.Divisor Webster) majority.Refuse refl by_webster (record { parties = refl; more_parties = refl }),
)
