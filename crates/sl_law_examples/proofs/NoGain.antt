-- Votes that a party lacks, and no seat gained by the older statutes, stage by stage.
use Rattle.std.proofs.Common.{◌≡◌, ℕ, zero, suc, ◌≤◌, true, false, List, [], ◌∷◌, arith, refl, sym, subst}
use Rattle.std.specs.Prelude.{codes}
use Rattle.sl_base_quotients.specs.declared.method.Divisor.TheVariants.{Webster, Jefferson}
use Rattle.sl_base_quotients.specs.declared.method.Method.{Method}
use Rattle.sl_base_quotients.specs.declared.method.Method.TheVariants as by
use Rattle.sl_law_meaning.specs.declared.book.Majority.{Majority}
use Rattle.sl_law_meaning.specs.declared.book.Majority.TheVariants as majority
use Rattle.sl_law_meaning.specs.declared.fact.Fact.TheVariants as facts
use Rattle.sl_law_meaning.specs.book.Typing.{is_typed}
use Rattle.sl_law_meaning.specs.methods.LeastHouse.{Meets, Serves, GrownTo, IsGrowth}
use Rattle.sl_law_meaning.specs.methods.Ties.{Decided}
use Rattle.sl_law_meaning.specs.returns.Election.{Election, IsElection, with_list}
use Rattle.sl_law_meaning.specs.meaning.Results.{Column, plain}
use Rattle.sl_law_meaning.specs.meaning.Splits.{Seats, award_of}
use Rattle.sl_law_meaning.specs.meaning.Means.{nothing_known, context_of}
use Rattle.sl_law_meaning.proofs.Elections.{is_with_list}
use Rattle.sl_law_meaning.proofs.meaning.PlainRuns.{to_means, then_plain}
use Rattle.sl_law_statutes.specs.Trees.{common, pool, keep, law_of_2013}
use Rattle.sl_law_statutes.specs.Parties.{IsGain}
use Rattle.sl_law_examples.specs.VotesThatCost.{votes, Gives, Changes}
use Rattle.sl_law_examples.specs.WinnersAbove.{with_winners}
use Rattle.sl_law_examples.specs.Tables.{one_list_each, NoSeatGained}
use Rattle.sl_law_examples.proofs.Allocated.{divisor_some, divisor_only, hamilton_only_with}
use Rattle.sl_law_examples.proofs.SmallReturns.{are_votes, is_two_by_two, gives, undisputed, undisputed_remainders}
use Rattle.sl_law_examples.proofs.VotesAndOverhang.{Chosen}
use Rattle.sl_law_examples.proofs.WinnersAbove.{book, no_method_gives}
use Rattle.sl_law_examples.proofs.WinnersAbove.{are_returns as are_winners}

-- ---- up to 2008: one of five seats for A, and five winners

abbrev more_votes : Election
more_votes = with_list with_winners 0 0 (votes 3)

are_more_votes : IsElection more_votes
are_more_votes = is_with_list with_winners 0 0 (votes 3) are_winners (omega arith) (omega arith) (are_votes 3 (omega arith))

gain : IsGain with_winners 0 0 (votes 3)
gain = record { before = votes 1; had = refl; is = are_votes 3 (omega arith); counted = omega arith; valid = omega arith }

-- what is allocated: one to A
record AreAllocated (method : Method) (m : Majority) : Type 0 where
  pub parties : Chosen method m (3 ∷ 11 ∷ []) (0 ∷ 0 ∷ []) 5 (1 ∷ 4 ∷ [])
  pub one : Chosen method majority.Free (3 ∷ []) (0 ∷ []) 1 (1 ∷ [])
  pub four : Chosen method majority.Free (11 ∷ []) (0 ∷ []) 4 (4 ∷ [])
  pub stands : Seats (1 ∷ 4 ∷ []) ≡ award_of [] m (3 ∷ 11 ∷ []) 5 (Decided (1 ∷ 4 ∷ []))

module _ (at : ℕ → ℕ) (title : List ℕ) (seats : ℕ) (method : Method) (m : Majority) (given : AreAllocated method m) where
  kept : (typed : is_typed (book at 2 title seats (common at) facts.Outside method m (keep at)) ≡ true) → Gives (book at 2 title seats (common at) facts.Outside method m (keep at)) more_votes (5 ∷ 4 ∷ [])
  kept typed =
      let b = book at 2 title seats (common at) facts.Outside method m (keep at) in
      gives b more_votes typed are_more_votes refl _ (
        plain (5 ∷ []),
        to_means b more_votes (context_of nothing_known (pool at facts.Outside)) (pool at facts.Outside).expr refl (5 ∷ []) (5 ∷ [], 0 ∷ [], refl, (0 ∷ 0 ∷ [], refl, refl), refl),
        (
          Column (1 ∷ 4 ∷ []) _,
          then_plain _ _ _ (5 ∷ []) (_, refl, refl)
              (then_plain _ _ _ (3 ∷ 11 ∷ []) (then_plain _ _ _ (3 ∷ 11 ∷ 0 ∷ 0 ∷ []) (_, refl, refl) refl)
              (record { awards = Seats (1 ∷ 4 ∷ []) ∷ []; each = (record { choice = Decided (1 ∷ 4 ∷ []); chosen = given.parties; is = given.stands }, tt); is = refl })),
          (
            Column (1 ∷ 4 ∷ 0 ∷ 0 ∷ []) _,
            then_plain _ _ _ (1 ∷ 4 ∷ []) (_, refl, refl)
                (then_plain _ _ _ (3 ∷ 11 ∷ 0 ∷ 0 ∷ []) (_, refl, refl)
                (record {
                  awards = Seats (1 ∷ []) ∷ Seats (4 ∷ []) ∷ [];
                  each = (record { choice = Decided (1 ∷ []); chosen = given.one; is = refl }, (record { choice = Decided (4 ∷ []); chosen = given.four; is = refl }, tt));
                  is = refl;
                })),
            refl,
          ),
        ),
      ) (1 ∷ 4 ∷ 0 ∷ 0 ∷ []) refl (5 ∷ 4 ∷ []) refl

by_jefferson : AreAllocated (by.Divisor Jefferson) majority.Free
by_jefferson = record {
  parties = undisputed Jefferson (3 ∷ 11 ∷ []) (0 ∷ 0 ∷ []) (1 ∷ 4 ∷ []) refl refl refl [];
  one = undisputed Jefferson (3 ∷ []) (0 ∷ []) (1 ∷ []) refl refl refl [];
  four = undisputed Jefferson (11 ∷ []) (0 ∷ []) (4 ∷ []) refl refl refl [];
  stands = refl;
}

by_hamilton : AreAllocated by.Hamilton majority.Prefer
by_hamilton = record {
  parties = undisputed_remainders true (3 ∷ 11 ∷ []) (1 ∷ 4 ∷ []) refl refl [];
  one = undisputed_remainders false (3 ∷ []) (1 ∷ []) refl refl [];
  four = undisputed_remainders false (11 ∷ []) (4 ∷ []) refl refl [];
  stands = refl;
}

by_webster : AreAllocated (by.Divisor Webster) majority.Refuse
by_webster = record {
  parties = undisputed Webster (3 ∷ 11 ∷ []) (0 ∷ 0 ∷ []) (1 ∷ 4 ∷ []) refl refl refl [];
  one = undisputed Webster (3 ∷ []) (0 ∷ []) (1 ∷ []) refl refl refl [];
  four = undisputed Webster (11 ∷ []) (0 ∷ []) (4 ∷ []) refl refl refl [];
  stands = refl;
}

-- ---- 2013: four seats, and three

are_one_list_each : IsElection one_list_each
are_one_list_each =
    let parties = is_two_by_two 3 2 1 (omega arith) (omega arith) (omega arith) (omega arith) in
    let one = is_with_list _ 0 0 (votes 1) parties (omega arith) (omega arith) (are_votes 1 (omega arith)) in
    is_with_list _ 1 1 (votes 1) one (omega arith) (omega arith) (are_votes 1 (omega arith))

abbrev with_one_more : Election
with_one_more = with_list one_list_each 0 0 (votes 2)

are_with_one_more : IsElection with_one_more
are_with_one_more = is_with_list one_list_each 0 0 (votes 2) are_one_list_each (omega arith) (omega arith) (are_votes 2 (omega arith))

grown_before : IsGrowth Webster (1 ∷ 1 ∷ []) (2 ∷ 1 ∷ []) 3 4000 (GrownTo 4)
grown_before = (
  λ empty. empty 0 (omega arith),
  record {
    from = omega arith;
    up_to = omega arith;
    outside = omega arith;
    met = λ t h. subst (Meets (1 ∷ 1 ∷ []) (2 ∷ 1 ∷ [])) (sym ((divisor_only Webster (1 ∷ 1 ∷ []) (0 ∷ 0 ∷ []) (2 ∷ 2 ∷ []) refl refl refl).1 t h)) meets;
  },
  least,
) where
  meets : Meets (1 ∷ 1 ∷ []) (2 ∷ 1 ∷ []) (2 ∷ 2 ∷ [])
  meets zero f = omega arith
  meets (suc zero) f = omega arith
  meets (suc (suc i)) f = omega arith

  least : (h : ℕ) → Serves Webster (1 ∷ 1 ∷ []) (2 ∷ 1 ∷ []) 3 4000 h → 4 ≤ h
  least zero s = absurd (let from = s.from in omega (arith, from))
  least (suc zero) s = absurd (let from = s.from in omega (arith, from))
  least (suc (suc zero)) s = absurd (let from = s.from in omega (arith, from))
  least (suc (suc (suc zero))) s = absurd (let le : 2 ≤ 1 = s.met (1 ∷ 2 ∷ []) (divisor_some Webster (1 ∷ 1 ∷ []) (0 ∷ 0 ∷ []) (1 ∷ 2 ∷ []) refl refl refl) 0 (omega arith) in omega (arith, le))
  least (suc (suc (suc (suc h)))) s = omega arith

grown_after : IsGrowth Webster (2 ∷ 1 ∷ []) (2 ∷ 1 ∷ []) 3 4000 (GrownTo 3)
grown_after = (
  λ empty. empty 0 (omega arith),
  record {
    from = omega arith;
    up_to = omega arith;
    outside = omega arith;
    met = λ t h. subst (Meets (2 ∷ 1 ∷ []) (2 ∷ 1 ∷ [])) (sym ((divisor_only Webster (2 ∷ 1 ∷ []) (0 ∷ 0 ∷ []) (2 ∷ 1 ∷ []) refl refl refl).1 t h)) meets;
  },
  λ h s. s.from,
) where
  meets : Meets (2 ∷ 1 ∷ []) (2 ∷ 1 ∷ []) (2 ∷ 1 ∷ [])
  meets zero f = omega arith
  meets (suc zero) f = omega arith
  meets (suc (suc i)) f = omega arith

module _ (at : ℕ → ℕ) where
  -- the house grows to four seats
  before : Gives (law_of_2013 at) one_list_each (2 ∷ 2 ∷ [])
  before =
      gives (law_of_2013 at) one_list_each refl are_one_list_each refl _ (
        plain (3 ∷ []),
        to_means (law_of_2013 at) one_list_each (context_of nothing_known (pool at facts.Outside)) (pool at facts.Outside).expr refl (3 ∷ []) (3 ∷ [], 0 ∷ [], refl, (0 ∷ 0 ∷ [], refl, refl), refl),
        (
          Column (2 ∷ 1 ∷ []) _,
          then_plain _ _ _ (3 ∷ []) (_, refl, refl)
              (then_plain _ _ _ (2 ∷ 1 ∷ []) (_, refl, refl) (record { awards = Seats (2 ∷ 1 ∷ []) ∷ []; each = (record { choice = Decided (2 ∷ 1 ∷ []); chosen = undisputed Webster (2 ∷ 1 ∷ []) (0 ∷ 0 ∷ []) (2 ∷ 1 ∷ []) refl refl refl []; is = refl }, tt); is = refl })),
          (
            Column (2 ∷ 0 ∷ 0 ∷ 1 ∷ []) _,
            then_plain _ _ _ (2 ∷ 1 ∷ []) (then_plain _ _ _ (2 ∷ 1 ∷ []) (_, refl, refl) (then_plain _ _ _ (0 ∷ 0 ∷ []) (_, refl, refl) refl))
                (then_plain _ _ _ (1 ∷ 0 ∷ 0 ∷ 1 ∷ []) (_, refl, refl)
                (record {
                  awards = Seats (2 ∷ []) ∷ Seats (1 ∷ []) ∷ [];
                  each = (
                    record { choice = Decided (2 ∷ []); chosen = undisputed Webster (1 ∷ []) (0 ∷ []) (2 ∷ []) refl refl refl []; is = refl },
                    (record { choice = Decided (1 ∷ []); chosen = undisputed Webster (1 ∷ []) (0 ∷ []) (1 ∷ []) refl refl refl []; is = refl }, tt),
                  );
                  is = refl;
                })),
            (
              plain (2 ∷ 1 ∷ []),
              then_plain _ _ _ (2 ∷ 0 ∷ 0 ∷ 1 ∷ []) (then_plain _ _ _ (2 ∷ 0 ∷ 0 ∷ 1 ∷ []) (_, refl, refl) (then_plain _ _ _ (0 ∷ 0 ∷ 0 ∷ 0 ∷ []) (_, refl, refl) refl)) refl,
              (
                Column (2 ∷ 2 ∷ []) _,
                then_plain _ _ _ (3 ∷ []) (_, refl, refl)
                    (then_plain _ _ _ (1 ∷ 1 ∷ []) (then_plain _ _ _ (1 ∷ 0 ∷ 0 ∷ 1 ∷ []) (_, refl, refl) refl)
                    (then_plain _ _ _ (2 ∷ 1 ∷ []) (_, refl, refl)
                    (record {
                      awards = Seats (2 ∷ 2 ∷ []) ∷ [];
                      each = (
                        record { growth = GrownTo 4; least = grown_before; comes = record { choice = Decided (2 ∷ 2 ∷ []); chosen = undisputed Webster (1 ∷ 1 ∷ []) (0 ∷ 0 ∷ []) (2 ∷ 2 ∷ []) refl refl refl []; is = refl } },
                        tt,
                      );
                      is = refl;
                    }))),
                (
                  Column (2 ∷ 0 ∷ 0 ∷ 2 ∷ []) _,
                  then_plain _ _ _ (2 ∷ 2 ∷ []) (_, refl, refl)
                      (then_plain _ _ _ (1 ∷ 0 ∷ 0 ∷ 1 ∷ []) (_, refl, refl)
                      (then_plain _ _ _ (0 ∷ 0 ∷ 0 ∷ 0 ∷ []) (_, refl, refl)
                      (record {
                        awards = Seats (2 ∷ []) ∷ Seats (2 ∷ []) ∷ [];
                        each = (
                          record { choice = Decided (2 ∷ []); chosen = undisputed Webster (1 ∷ []) (0 ∷ []) (2 ∷ []) refl refl refl []; is = refl },
                          (record { choice = Decided (2 ∷ []); chosen = undisputed Webster (1 ∷ []) (0 ∷ []) (2 ∷ []) refl refl refl []; is = refl }, tt),
                        );
                        is = refl;
                      }))),
                  refl,
                ),
              ),
            ),
          ),
        ),
      ) (2 ∷ 0 ∷ 0 ∷ 2 ∷ []) refl (2 ∷ 2 ∷ []) refl

  -- with a vote more to three
  after : Gives (law_of_2013 at) with_one_more (2 ∷ 1 ∷ [])
  after =
      gives (law_of_2013 at) with_one_more refl are_with_one_more refl _ (
        plain (3 ∷ []),
        to_means (law_of_2013 at) with_one_more (context_of nothing_known (pool at facts.Outside)) (pool at facts.Outside).expr refl (3 ∷ []) (3 ∷ [], 0 ∷ [], refl, (0 ∷ 0 ∷ [], refl, refl), refl),
        (
          Column (2 ∷ 1 ∷ []) _,
          then_plain _ _ _ (3 ∷ []) (_, refl, refl)
              (then_plain _ _ _ (2 ∷ 1 ∷ []) (_, refl, refl) (record { awards = Seats (2 ∷ 1 ∷ []) ∷ []; each = (record { choice = Decided (2 ∷ 1 ∷ []); chosen = undisputed Webster (2 ∷ 1 ∷ []) (0 ∷ 0 ∷ []) (2 ∷ 1 ∷ []) refl refl refl []; is = refl }, tt); is = refl })),
          (
            Column (2 ∷ 0 ∷ 0 ∷ 1 ∷ []) _,
            then_plain _ _ _ (2 ∷ 1 ∷ []) (then_plain _ _ _ (2 ∷ 1 ∷ []) (_, refl, refl) (then_plain _ _ _ (0 ∷ 0 ∷ []) (_, refl, refl) refl))
                (then_plain _ _ _ (2 ∷ 0 ∷ 0 ∷ 1 ∷ []) (_, refl, refl)
                (record {
                  awards = Seats (2 ∷ []) ∷ Seats (1 ∷ []) ∷ [];
                  each = (
                    record { choice = Decided (2 ∷ []); chosen = undisputed Webster (2 ∷ []) (0 ∷ []) (2 ∷ []) refl refl refl []; is = refl },
                    (record { choice = Decided (1 ∷ []); chosen = undisputed Webster (1 ∷ []) (0 ∷ []) (1 ∷ []) refl refl refl []; is = refl }, tt),
                  );
                  is = refl;
                })),
            (
              plain (2 ∷ 1 ∷ []),
              then_plain _ _ _ (2 ∷ 0 ∷ 0 ∷ 1 ∷ []) (then_plain _ _ _ (2 ∷ 0 ∷ 0 ∷ 1 ∷ []) (_, refl, refl) (then_plain _ _ _ (0 ∷ 0 ∷ 0 ∷ 0 ∷ []) (_, refl, refl) refl)) refl,
              (
                Column (2 ∷ 1 ∷ []) _,
                then_plain _ _ _ (3 ∷ []) (_, refl, refl)
                    (then_plain _ _ _ (2 ∷ 1 ∷ []) (then_plain _ _ _ (2 ∷ 0 ∷ 0 ∷ 1 ∷ []) (_, refl, refl) refl)
                    (then_plain _ _ _ (2 ∷ 1 ∷ []) (_, refl, refl)
                    (record {
                      awards = Seats (2 ∷ 1 ∷ []) ∷ [];
                      each = (
                        record { growth = GrownTo 3; least = grown_after; comes = record { choice = Decided (2 ∷ 1 ∷ []); chosen = undisputed Webster (2 ∷ 1 ∷ []) (0 ∷ 0 ∷ []) (2 ∷ 1 ∷ []) refl refl refl []; is = refl } },
                        tt,
                      );
                      is = refl;
                    }))),
                (
                  Column (2 ∷ 0 ∷ 0 ∷ 1 ∷ []) _,
                  then_plain _ _ _ (2 ∷ 1 ∷ []) (_, refl, refl)
                      (then_plain _ _ _ (2 ∷ 0 ∷ 0 ∷ 1 ∷ []) (_, refl, refl)
                      (then_plain _ _ _ (0 ∷ 0 ∷ 0 ∷ 0 ∷ []) (_, refl, refl)
                      (record {
                        awards = Seats (2 ∷ []) ∷ Seats (1 ∷ []) ∷ [];
                        each = (
                          record { choice = Decided (2 ∷ []); chosen = undisputed Webster (2 ∷ []) (0 ∷ []) (2 ∷ []) refl refl refl []; is = refl },
                          (record { choice = Decided (1 ∷ []); chosen = undisputed Webster (1 ∷ []) (0 ∷ []) (1 ∷ []) refl refl refl []; is = refl }, tt),
                        );
                        is = refl;
                      }))),
                  refl,
                ),
              ),
            ),
          ),
        ),
      ) (2 ∷ 0 ∷ 0 ∷ 1 ∷ []) refl (2 ∷ 1 ∷ []) refl

  changes : Changes (law_of_2013 at) one_list_each (votes 2) (2 ∷ 2 ∷ []) (2 ∷ 1 ∷ [])
  changes = record {
    returns = are_one_list_each;
    gain = record { before = votes 1; had = refl; is = are_votes 2 (omega arith); counted = omega arith; valid = omega arith };
    had = before;
    have = after;
  }

pub no_seat_gained : NoSeatGained
no_seat_gained = record {
  by_jefferson = (divisor_only Jefferson (1 ∷ 11 ∷ []) (0 ∷ 0 ∷ []) (0 ∷ 5 ∷ []) refl refl refl, divisor_only Jefferson (3 ∷ 11 ∷ []) (0 ∷ 0 ∷ []) (1 ∷ 4 ∷ []) refl refl refl);
  by_hamilton = (hamilton_only_with true (1 ∷ 11 ∷ []) (0 ∷ 5 ∷ []) refl refl, hamilton_only_with true (3 ∷ 11 ∷ []) (1 ∷ 4 ∷ []) refl refl);
  by_webster = (divisor_only Webster (1 ∷ 11 ∷ []) (0 ∷ 0 ∷ []) (0 ∷ 5 ∷ []) refl refl refl, divisor_only Webster (3 ∷ 11 ∷ []) (0 ∷ 0 ∷ []) (1 ∷ 4 ∷ []) refl refl refl);
  up_to_2008 = λ at. (
    record { returns = are_winners; gain = gain; had = (no_method_gives.seats at).0; have = kept at (codes "Bundeswahlgesetz 1956") 494 (by.Divisor Jefferson) majority.Free by_jefferson refl },
    record { returns = are_winners; gain = gain; had = (no_method_gives.seats at).1; have = kept at (codes "Bundeswahlgesetz 1985") 496 by.Hamilton majority.Prefer by_hamilton refl },
    record { returns = are_winners; gain = gain; had = (no_method_gives.seats at).2; have = kept at (codes "Bundeswahlgesetz 2008") 598 (by.Divisor Webster) majority.Refuse by_webster refl },
  );
  of_four = (divisor_only Webster (1 ∷ 1 ∷ []) (0 ∷ 0 ∷ []) (2 ∷ 2 ∷ []) refl refl refl, divisor_only Webster (2 ∷ 1 ∷ []) (0 ∷ 0 ∷ []) (3 ∷ 1 ∷ []) refl refl refl);
  of_2013 = changes;
}
