-- A party with more winners than seats, by three statutes that keep them and by one that covers them.
use Rattle.std.proofs.Common.{◌≡◌, ℕ, zero, suc, ◌*◌, ◌≤◌, inl, inr, true, false, List, [], ◌∷◌, count_by, arith, refl, ap}
use Rattle.std.specs.Prelude.{Bool, codes, zip}
use Rattle.sl_base_quotients.specs.declared.method.Divisor.{Divisor}
use Rattle.sl_base_quotients.specs.declared.method.Divisor.TheVariants.{Adams, Dean, Hill, Webster, Jefferson}
use Rattle.sl_base_quotients.specs.declared.method.Method.{Method}
use Rattle.sl_base_quotients.specs.declared.method.Method.TheVariants as by
use Rattle.sl_law_meaning.specs.declared.book.Cond.{Cond}
use Rattle.sl_law_meaning.specs.declared.book.LastClause.{LastClause}
use Rattle.sl_law_meaning.specs.declared.book.Majority.{Majority}
use Rattle.sl_law_meaning.specs.declared.book.Majority.TheVariants as majority
use Rattle.sl_law_meaning.specs.declared.fact.Fact.{Fact}
use Rattle.sl_law_meaning.specs.declared.fact.Fact.TheVariants as facts
use Rattle.sl_law_meaning.specs.declared.table.Outcome.TheVariants as outcome
use Rattle.sl_law_meaning.specs.book.Trees.{BookTree}
use Rattle.sl_law_meaning.specs.book.Typing.{is_typed}
use Rattle.sl_law_meaning.specs.methods.Hamilton.{IsHamiltonAllocation}
use Rattle.sl_law_meaning.specs.methods.Ties.{Choice, Decided}
use Rattle.sl_law_meaning.specs.laws.MethodLaws.{AllHaveVotes}
use Rattle.sl_law_meaning.specs.returns.Election.{IsElection}
use Rattle.sl_law_meaning.specs.returns.Facts.{lists_of}
use Rattle.sl_law_meaning.specs.meaning.Columns.{IsLeaf}
use Rattle.sl_law_meaning.specs.meaning.Seating.{base_of, cover_table}
use Rattle.sl_law_meaning.specs.meaning.Results.{Column, plain}
use Rattle.sl_law_meaning.specs.meaning.Splits.{Seats, award_of}
use Rattle.sl_law_meaning.specs.meaning.Tables.{SeatTable}
use Rattle.sl_law_meaning.specs.meaning.Means.{Known, Through, nothing_known, context_of, StagesMean, IsSeated, Means}
use Rattle.sl_law_meaning.proofs.Elections.{is_with_list, is_with_win}
use Rattle.sl_law_meaning.proofs.meaning.MeaningProofs.{at_most_one_outcome}
use Rattle.sl_law_meaning.proofs.meaning.PlainRuns.{to_means, then_plain}
use Rattle.sl_law_statutes.specs.Trees.{number, common, pool, shares, keep, law_of_2023}
use Rattle.sl_law_statutes.specs.Unseated.{is_unseated}
use Rattle.sl_law_examples.specs.Failures.{Free}
use Rattle.sl_law_examples.specs.VotesThatCost.{votes, winner, Gives}
use Rattle.sl_law_examples.specs.WinnersAbove.{with_winners, NoMethodGives, FiveUnseated}
use Rattle.sl_law_examples.proofs.SmallReturns.{are_votes, is_winner, is_two_by_two, means_it, gives_it, gives, undisputed, undisputed_remainders, undisputed_covering}
use Rattle.sl_law_examples.proofs.VotesAndOverhang.{Chosen}

pub are_returns : IsElection with_winners
are_returns =
    let parties = is_two_by_two 5 2 2 (omega arith) (omega arith) (omega arith) (omega arith) in
    let one = is_with_list _ 0 0 (votes 1) parties (omega arith) (omega arith) (are_votes 1 (omega arith)) in
    let two = is_with_list _ 0 1 (votes 11) one (omega arith) (omega arith) (are_votes 11 (omega arith)) in
    let x1 = is_with_win _ (codes "x1") (winner 0 0) two refl (is_winner 2 2 0 0 (omega arith) (omega arith)) in
    let x2 = is_with_win _ (codes "x2") (winner 0 0) x1 refl (is_winner 2 2 0 0 (omega arith) (omega arith)) in
    let x3 = is_with_win _ (codes "x3") (winner 0 0) x2 refl (is_winner 2 2 0 0 (omega arith) (omega arith)) in
    let x4 = is_with_win _ (codes "x4") (winner 0 0) x3 refl (is_winner 2 2 0 0 (omega arith) (omega arith)) in
    is_with_win _ (codes "x5") (winner 0 0) x4 refl (is_winner 2 2 0 0 (omega arith) (omega arith))

-- a book of the three stages
abbrev pub book : (ℕ → ℕ) → ℕ → List ℕ → ℕ → List Cond → Fact → Method → Majority → LastClause → BookTree
book at version title seats conditions told method m last = record {
  version = number at version 35;
  law = title;
  house = number at seats 36;
  eligible = conditions;
  stages = shares at told method m;
  last = last;
}

-- what is allocated: all to B
record AreAllocated (method : Method) (m : Majority) : Type 0 where
  pub parties : Chosen method m (1 ∷ 11 ∷ []) (0 ∷ 0 ∷ []) 5 (0 ∷ 5 ∷ [])
  pub none : Chosen method majority.Free (1 ∷ []) (0 ∷ []) 0 (0 ∷ [])
  pub all : Chosen method majority.Free (11 ∷ []) (0 ∷ []) 5 (5 ∷ [])
  pub stands : Seats (0 ∷ 5 ∷ []) ≡ award_of [] m (1 ∷ 11 ∷ []) 5 (Decided (0 ∷ 5 ∷ []))

module _ (at : ℕ → ℕ) (title : List ℕ) (seats : ℕ) (method : Method) (m : Majority) (given : AreAllocated method m) where
  kept : (typed : is_typed (book at 2 title seats (common at) facts.Outside method m (keep at)) ≡ true) → Gives (book at 2 title seats (common at) facts.Outside method m (keep at)) with_winners (5 ∷ 5 ∷ [])
  kept typed =
      let b = book at 2 title seats (common at) facts.Outside method m (keep at) in
      gives b with_winners typed are_returns refl _ (
        plain (5 ∷ []),
        to_means b with_winners (context_of nothing_known (pool at facts.Outside)) (pool at facts.Outside).expr refl (5 ∷ []) (5 ∷ [], 0 ∷ [], refl, (0 ∷ 0 ∷ [], refl, refl), refl),
        (
          Column (0 ∷ 5 ∷ []) _,
          then_plain _ _ _ (5 ∷ []) (_, refl, refl)
              (then_plain _ _ _ (1 ∷ 11 ∷ []) (then_plain _ _ _ (1 ∷ 11 ∷ 0 ∷ 0 ∷ []) (_, refl, refl) refl)
              (record { awards = Seats (0 ∷ 5 ∷ []) ∷ []; each = (record { choice = Decided (0 ∷ 5 ∷ []); chosen = given.parties; is = given.stands }, tt); is = refl })),
          (
            Column (0 ∷ 5 ∷ 0 ∷ 0 ∷ []) _,
            then_plain _ _ _ (0 ∷ 5 ∷ []) (_, refl, refl)
                (then_plain _ _ _ (1 ∷ 11 ∷ 0 ∷ 0 ∷ []) (_, refl, refl)
                (record {
                  awards = Seats (0 ∷ []) ∷ Seats (5 ∷ []) ∷ [];
                  each = (record { choice = Decided (0 ∷ []); chosen = given.none; is = refl }, (record { choice = Decided (5 ∷ []); chosen = given.all; is = refl }, tt));
                  is = refl;
                })),
            refl,
          ),
        ),
      ) (0 ∷ 5 ∷ 0 ∷ 0 ∷ []) refl (5 ∷ 5 ∷ []) refl

by_jefferson : AreAllocated (by.Divisor Jefferson) majority.Free
by_jefferson = record {
  parties = undisputed Jefferson (1 ∷ 11 ∷ []) (0 ∷ 0 ∷ []) (0 ∷ 5 ∷ []) refl refl refl [];
  none = undisputed Jefferson (1 ∷ []) (0 ∷ []) (0 ∷ []) refl refl refl [];
  all = undisputed Jefferson (11 ∷ []) (0 ∷ []) (5 ∷ []) refl refl refl [];
  stands = refl;
}

by_hamilton : AreAllocated by.Hamilton majority.Prefer
by_hamilton = record {
  parties = undisputed_remainders true (1 ∷ 11 ∷ []) (0 ∷ 5 ∷ []) refl refl [];
  none = undisputed_remainders false (1 ∷ []) (0 ∷ []) refl refl [];
  all = undisputed_remainders false (11 ∷ []) (5 ∷ []) refl refl [];
  stands = refl;
}

by_webster : AreAllocated (by.Divisor Webster) majority.Refuse
by_webster = record {
  parties = undisputed Webster (1 ∷ 11 ∷ []) (0 ∷ 0 ∷ []) (0 ∷ 5 ∷ []) refl refl refl [];
  none = undisputed Webster (1 ∷ []) (0 ∷ []) (0 ∷ []) refl refl refl [];
  all = undisputed Webster (11 ∷ []) (0 ∷ []) (5 ∷ []) refl refl refl [];
  stands = refl;
}

no_divisor : (method : Divisor) → Free method (1 ∷ 11 ∷ []) 10 (5 ∷ 5 ∷ []) → ⊥
no_divisor Adams h = let le : 11 * 4 ≤ 1 * 5 = h.min_max 0 1 (omega arith) (omega arith) (omega arith) in omega (arith, le)
no_divisor Dean h = let le : 11 * 11 * 40 ≤ 1 * 9 * 60 = h.min_max 0 1 (omega arith) (omega arith) (omega arith) in omega (arith, le)
no_divisor Hill h = let le : 121 * 20 ≤ 1 * 30 = h.min_max 0 1 (omega arith) (omega arith) (omega arith) in omega (arith, le)
no_divisor Webster h = let le : 22 * 9 ≤ 2 * 11 = h.min_max 0 1 (omega arith) (omega arith) (omega arith) in omega (arith, le)
no_divisor Jefferson h = let le : 11 * 5 ≤ 1 * 6 = h.min_max 0 1 (omega arith) (omega arith) (omega arith) in omega (arith, le)

no_remainders : (prefer : Bool) → IsHamiltonAllocation prefer (1 ∷ 11 ∷ []) 10 (5 ∷ 5 ∷ []) → ⊥
no_remainders prefer h = elim (h.shares 0 (omega arith)) [ inl e ↦ omega (arith, e) | inr e ↦ omega (arith, e) ]

pub no_method_gives : NoMethodGives
no_method_gives = record {
  seats = λ at. (
    kept at (codes "Bundeswahlgesetz 1956") 494 (by.Divisor Jefferson) majority.Free by_jefferson refl,
    kept at (codes "Bundeswahlgesetz 1985") 496 by.Hamilton majority.Prefer by_hamilton refl,
    kept at (codes "Bundeswahlgesetz 2008") 598 (by.Divisor Webster) majority.Refuse by_webster refl,
  );
  by_divisor = no_divisor;
  by_remainders = no_remainders;
}

-- ---- 2023: the list of A has no seat, and five winners

all_won : AllHaveVotes (1 ∷ 1 ∷ 1 ∷ 1 ∷ 1 ∷ [])
all_won zero l = omega arith
all_won (suc zero) l = omega arith
all_won (suc (suc zero)) l = omega arith
all_won (suc (suc (suc zero))) l = omega arith
all_won (suc (suc (suc (suc zero)))) l = omega arith
all_won (suc (suc (suc (suc (suc i))))) l = absurd (omega (arith, l))

pub nobody : AllHaveVotes []
nobody i l = absurd (omega (arith, l))

module _ (at : ℕ → ℕ) where
  abbrev b : BookTree
  b = law_of_2023 at

  abbrev covered_run : (k : Known) × StagesMean b with_winners nothing_known b.stages (Through k)
  covered_run = (
    _,
    (
      plain (5 ∷ []),
      to_means b with_winners (context_of nothing_known (pool at facts.Independents)) (pool at facts.Independents).expr refl (5 ∷ []) (5 ∷ [], 0 ∷ [], refl, (0 ∷ 0 ∷ [], refl, refl), refl),
      (
        Column (0 ∷ 5 ∷ []) _,
        then_plain _ _ _ (5 ∷ []) (_, refl, refl)
            (then_plain _ _ _ (1 ∷ 11 ∷ []) (then_plain _ _ _ (1 ∷ 11 ∷ 0 ∷ 0 ∷ []) (_, refl, refl) refl)
            (record { awards = Seats (0 ∷ 5 ∷ []) ∷ []; each = (record { choice = Decided (0 ∷ 5 ∷ []); chosen = by_webster.parties; is = refl }, tt); is = refl })),
        (
          Column (0 ∷ 5 ∷ 0 ∷ 0 ∷ []) _,
          then_plain _ _ _ (0 ∷ 5 ∷ []) (_, refl, refl)
              (then_plain _ _ _ (1 ∷ 11 ∷ 0 ∷ 0 ∷ []) (_, refl, refl)
              (record {
                awards = Seats (0 ∷ []) ∷ Seats (5 ∷ []) ∷ [];
                each = (record { choice = Decided (0 ∷ []); chosen = by_webster.none; is = refl }, (record { choice = Decided (5 ∷ []); chosen = by_webster.all; is = refl }, tt));
                is = refl;
              })),
          refl,
        ),
      ),
    ),
  )

module _ (at : ℕ → ℕ) (k : Known) (run : StagesMean (law_of_2023 at) with_winners nothing_known (law_of_2023 at).stages (Through k))
    (is_base : IsLeaf (law_of_2023 at) with_winners k.columns (base_of (law_of_2023 at).last) (0 ∷ 5 ∷ 0 ∷ 0 ∷ [])) where
  abbrev places : List ((ℕ × ℕ) × Choice)
  places = zip (lists_of with_winners) (Decided (0 ∷ 0 ∷ 0 ∷ 0 ∷ 0 ∷ []) ∷ Decided [] ∷ [])

  abbrev table : SeatTable
  table = cover_table (law_of_2023 at) with_winners (0 ∷ 5 ∷ 0 ∷ 0 ∷ []) k.records places

  seated : IsSeated (law_of_2023 at) with_winners (law_of_2023 at).last.seating (0 ∷ 5 ∷ 0 ∷ 0 ∷ []) k.records (outcome.Table table)
  seated = record {
    choices = Decided (0 ∷ 0 ∷ 0 ∷ 0 ∷ 0 ∷ []) ∷ Decided [] ∷ [];
    each = (
      undisputed_covering (1 ∷ 1 ∷ 1 ∷ 1 ∷ 1 ∷ []) (1 ∷ 1 ∷ 1 ∷ 1 ∷ 1 ∷ []) (0 ∷ 0 ∷ 0 ∷ 0 ∷ 0 ∷ []) all_won refl refl [],
      (undisputed_covering [] [] [] nobody refl refl [], tt),
    );
    is = refl;
  }

  gives_all : Gives (law_of_2023 at) with_winners (0 ∷ 5 ∷ [])
  gives_all = gives_it (law_of_2023 at) with_winners refl are_returns k run (0 ∷ 5 ∷ 0 ∷ 0 ∷ []) is_base table seated (0 ∷ 5 ∷ []) refl

  none_seated : (t : SeatTable) → Means (law_of_2023 at) with_winners (outcome.Table t) → count_by is_unseated t.placed ≡ 5
  none_seated t means =
      let one = means_it (law_of_2023 at) with_winners refl are_returns k run (0 ∷ 5 ∷ 0 ∷ 0 ∷ []) is_base table seated in
      ap (count_by is_unseated) ((at_most_one_outcome (law_of_2023 at) with_winners refl are_returns (outcome.Table t) (outcome.Table table) means one).placed)

pub five_unseated : FiveUnseated
five_unseated = record {
  seats = λ at. gives_all at (covered_run at).0 (covered_run at).1 refl;
  unseated = λ at. none_seated at (covered_run at).0 (covered_run at).1 refl;
}
