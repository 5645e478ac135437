-- What is left of negative vote weight by the statute of 2013, stage by stage.
use Rattle.std.proofs.Common.{ℕ, zero, suc, ◌≤◌, [], ◌∷◌, arith, refl, sym, subst}
use Rattle.std.specs.Prelude.{codes}
use Rattle.sl_base_quotients.specs.declared.method.Divisor.TheVariants.{Webster}
use Rattle.sl_law_meaning.specs.declared.fact.Fact.TheVariants as facts
use Rattle.sl_law_meaning.specs.methods.LeastHouse.{Meets, Serves, GrownTo, IsGrowth}
use Rattle.sl_law_meaning.specs.methods.Ties.{Decided}
use Rattle.sl_law_meaning.specs.returns.Election.{Election, IsElection, with_list}
use Rattle.sl_law_meaning.specs.meaning.Results.{Column, plain}
use Rattle.sl_law_meaning.specs.meaning.Splits.{Seats}
use Rattle.sl_law_meaning.specs.meaning.Means.{Known, Through, nothing_known, context_of, StagesMean}
use Rattle.sl_law_meaning.proofs.Elections.{is_with_list, is_with_win}
use Rattle.sl_law_meaning.proofs.meaning.PlainRuns.{to_means, then_plain}
use Rattle.sl_law_statutes.specs.Trees.{law_of_2013, pool}
use Rattle.sl_law_examples.specs.VotesThatCost.{votes, winner, Gives, with_growth, VoteCostsByGrowth}
use Rattle.sl_law_examples.specs.Tables.{GivesLists}
use Rattle.sl_law_examples.proofs.Allocated.{divisor_some, divisor_only}
use Rattle.sl_law_examples.proofs.SmallReturns.{are_votes, is_winner, is_two_by_two, gives, gives_lists, undisputed}

are_returns : IsElection with_growth
are_returns =
    let parties = is_two_by_two 4 2 1 (omega arith) (omega arith) (omega arith) (omega arith) in
    let one = is_with_list _ 0 0 (votes 1) parties (omega arith) (omega arith) (are_votes 1 (omega arith)) in
    let two = is_with_list _ 0 1 (votes 6) one (omega arith) (omega arith) (are_votes 6 (omega arith)) in
    let three = is_with_list _ 1 0 (votes 4) two (omega arith) (omega arith) (are_votes 4 (omega arith)) in
    let four = is_with_list _ 1 1 (votes 1) three (omega arith) (omega arith) (are_votes 1 (omega arith)) in
    is_with_win _ (codes "y1") (winner 1 1) four refl (is_winner 2 2 1 1 (omega arith) (omega arith))

-- ---- the houses

grown_before : IsGrowth Webster (5 ∷ 7 ∷ []) (1 ∷ 4 ∷ []) 4 4000 (GrownTo 7)
grown_before = (
  λ empty. empty 0 (omega arith),
  record {
    from = omega arith;
    up_to = omega arith;
    outside = omega arith;
    met = λ t h. subst (Meets (5 ∷ 7 ∷ []) (1 ∷ 4 ∷ [])) (sym ((divisor_only Webster (5 ∷ 7 ∷ []) (0 ∷ 0 ∷ []) (3 ∷ 4 ∷ []) refl refl refl).1 t h)) meets;
  },
  least,
) where
  meets : Meets (5 ∷ 7 ∷ []) (1 ∷ 4 ∷ []) (3 ∷ 4 ∷ [])
  meets zero f = omega arith
  meets (suc zero) f = omega arith
  meets (suc (suc i)) f = omega arith

  least : (h : ℕ) → Serves Webster (5 ∷ 7 ∷ []) (1 ∷ 4 ∷ []) 4 4000 h → 7 ≤ h
  least zero s = absurd (let from = s.from in omega (arith, from))
  least (suc zero) s = absurd (let from = s.from in omega (arith, from))
  least (suc (suc zero)) s = absurd (let from = s.from in omega (arith, from))
  least (suc (suc (suc zero))) s = absurd (let from = s.from in omega (arith, from))
  least (suc (suc (suc (suc zero)))) s = absurd (let le : 4 ≤ 2 = s.met (2 ∷ 2 ∷ []) (divisor_some Webster (5 ∷ 7 ∷ []) (0 ∷ 0 ∷ []) (2 ∷ 2 ∷ []) refl refl refl) 1 (omega arith) in omega (arith, le))
  least (suc (suc (suc (suc (suc zero))))) s = absurd (let le : 4 ≤ 3 = s.met (2 ∷ 3 ∷ []) (divisor_some Webster (5 ∷ 7 ∷ []) (0 ∷ 0 ∷ []) (2 ∷ 3 ∷ []) refl refl refl) 1 (omega arith) in omega (arith, le))
  least (suc (suc (suc (suc (suc (suc zero)))))) s = absurd (let le : 4 ≤ 3 = s.met (3 ∷ 3 ∷ []) (divisor_some Webster (5 ∷ 7 ∷ []) (0 ∷ 0 ∷ []) (3 ∷ 3 ∷ []) refl refl refl) 1 (omega arith) in omega (arith, le))
  least (suc (suc (suc (suc (suc (suc (suc h))))))) s = omega arith

grown_after : IsGrowth Webster (6 ∷ 7 ∷ []) (2 ∷ 3 ∷ []) 4 4000 (GrownTo 5)
grown_after = (
  λ empty. empty 0 (omega arith),
  record {
    from = omega arith;
    up_to = omega arith;
    outside = omega arith;
    met = λ t h. subst (Meets (6 ∷ 7 ∷ []) (2 ∷ 3 ∷ [])) (sym ((divisor_only Webster (6 ∷ 7 ∷ []) (0 ∷ 0 ∷ []) (2 ∷ 3 ∷ []) refl refl refl).1 t h)) meets;
  },
  least,
) where
  meets : Meets (6 ∷ 7 ∷ []) (2 ∷ 3 ∷ []) (2 ∷ 3 ∷ [])
  meets zero f = omega arith
  meets (suc zero) f = omega arith
  meets (suc (suc i)) f = omega arith

  least : (h : ℕ) → Serves Webster (6 ∷ 7 ∷ []) (2 ∷ 3 ∷ []) 4 4000 h → 5 ≤ h
  least zero s = absurd (let from = s.from in omega (arith, from))
  least (suc zero) s = absurd (let from = s.from in omega (arith, from))
  least (suc (suc zero)) s = absurd (let from = s.from in omega (arith, from))
  least (suc (suc (suc zero))) s = absurd (let from = s.from in omega (arith, from))
  least (suc (suc (suc (suc zero)))) s = absurd (let le : 3 ≤ 2 = s.met (2 ∷ 2 ∷ []) (divisor_some Webster (6 ∷ 7 ∷ []) (0 ∷ 0 ∷ []) (2 ∷ 2 ∷ []) refl refl refl) 1 (omega arith) in omega (arith, le))
  least (suc (suc (suc (suc (suc h))))) s = omega arith

-- ---- the stages

module _ (at : ℕ → ℕ) where
  -- of three seats in X the first distribution gives B all
  before : Gives (law_of_2013 at) with_growth (3 ∷ 4 ∷ [])
  before =
      gives (law_of_2013 at) with_growth refl are_returns refl _ (
        plain (4 ∷ []),
        to_means (law_of_2013 at) with_growth (context_of nothing_known (pool at facts.Outside)) (pool at facts.Outside).expr refl (4 ∷ []) (4 ∷ [], 0 ∷ [], refl, (0 ∷ 0 ∷ [], refl, refl), refl),
        (
          Column (3 ∷ 1 ∷ []) _,
          then_plain _ _ _ (4 ∷ []) (_, refl, refl)
              (then_plain _ _ _ (2 ∷ 1 ∷ []) (_, refl, refl) (record { awards = Seats (3 ∷ 1 ∷ []) ∷ []; each = (record { choice = Decided (3 ∷ 1 ∷ []); chosen = undisputed Webster (2 ∷ 1 ∷ []) (0 ∷ 0 ∷ []) (3 ∷ 1 ∷ []) refl refl refl []; is = refl }, tt); is = refl })),
          (
            Column (0 ∷ 3 ∷ 1 ∷ 0 ∷ []) _,
            then_plain _ _ _ (3 ∷ 1 ∷ []) (then_plain _ _ _ (3 ∷ 1 ∷ []) (_, refl, refl) (then_plain _ _ _ (0 ∷ 0 ∷ []) (_, refl, refl) refl))
                (then_plain _ _ _ (1 ∷ 6 ∷ 4 ∷ 1 ∷ []) (_, refl, refl)
                (record {
                  awards = Seats (0 ∷ 3 ∷ []) ∷ Seats (1 ∷ 0 ∷ []) ∷ [];
                  each = (
                    record { choice = Decided (0 ∷ 3 ∷ []); chosen = undisputed Webster (1 ∷ 6 ∷ []) (0 ∷ 0 ∷ []) (0 ∷ 3 ∷ []) refl refl refl []; is = refl },
                    (record { choice = Decided (1 ∷ 0 ∷ []); chosen = undisputed Webster (4 ∷ 1 ∷ []) (0 ∷ 0 ∷ []) (1 ∷ 0 ∷ []) refl refl refl []; is = refl }, tt),
                  );
                  is = refl;
                })),
            (
              plain (1 ∷ 4 ∷ []),
              then_plain _ _ _ (0 ∷ 3 ∷ 1 ∷ 1 ∷ []) (then_plain _ _ _ (0 ∷ 3 ∷ 1 ∷ 0 ∷ []) (_, refl, refl) (then_plain _ _ _ (0 ∷ 0 ∷ 0 ∷ 1 ∷ []) (_, refl, refl) refl)) refl,
              (
                Column (3 ∷ 4 ∷ []) _,
                then_plain _ _ _ (4 ∷ []) (_, refl, refl)
                    (then_plain _ _ _ (5 ∷ 7 ∷ []) (then_plain _ _ _ (1 ∷ 6 ∷ 4 ∷ 1 ∷ []) (_, refl, refl) refl)
                    (then_plain _ _ _ (1 ∷ 4 ∷ []) (_, refl, refl)
                    (record {
                      awards = Seats (3 ∷ 4 ∷ []) ∷ [];
                      each = (
                        record { growth = GrownTo 7; least = grown_before; comes = record { choice = Decided (3 ∷ 4 ∷ []); chosen = undisputed Webster (5 ∷ 7 ∷ []) (0 ∷ 0 ∷ []) (3 ∷ 4 ∷ []) refl refl refl []; is = refl } },
                        tt,
                      );
                      is = refl;
                    }))),
                (
                  Column (1 ∷ 3 ∷ 2 ∷ 1 ∷ []) _,
                  then_plain _ _ _ (3 ∷ 4 ∷ []) (_, refl, refl)
                      (then_plain _ _ _ (1 ∷ 6 ∷ 4 ∷ 1 ∷ []) (_, refl, refl)
                      (then_plain _ _ _ (0 ∷ 0 ∷ 0 ∷ 1 ∷ []) (_, refl, refl)
                      (record {
                        awards = Seats (1 ∷ 2 ∷ []) ∷ Seats (3 ∷ 1 ∷ []) ∷ [];
                        each = (
                          record { choice = Decided (1 ∷ 2 ∷ []); chosen = undisputed Webster (1 ∷ 4 ∷ []) (0 ∷ 0 ∷ []) (1 ∷ 2 ∷ []) refl refl refl []; is = refl },
                          (record { choice = Decided (3 ∷ 1 ∷ []); chosen = undisputed Webster (6 ∷ 1 ∷ []) (0 ∷ 1 ∷ []) (3 ∷ 1 ∷ []) refl refl refl []; is = refl }, tt),
                        );
                        is = refl;
                      }))),
                  refl,
                ),
              ),
            ),
          ),
        ),
      ) (1 ∷ 3 ∷ 2 ∷ 1 ∷ []) refl (3 ∷ 4 ∷ []) refl

  -- with one vote more A has one of them
  abbrev more_votes : Election
  more_votes = with_list with_growth 0 0 (votes 2)

  are_more_votes : IsElection more_votes
  are_more_votes = is_with_list with_growth 0 0 (votes 2) are_returns (omega arith) (omega arith) (are_votes 2 (omega arith))

  abbrev after_run : (k : Known) × StagesMean (law_of_2013 at) more_votes nothing_known (law_of_2013 at).stages (Through k)
  after_run = (
    _,
    (
      plain (4 ∷ []),
      to_means (law_of_2013 at) more_votes (context_of nothing_known (pool at facts.Outside)) (pool at facts.Outside).expr refl (4 ∷ []) (4 ∷ [], 0 ∷ [], refl, (0 ∷ 0 ∷ [], refl, refl), refl),
      (
        Column (3 ∷ 1 ∷ []) _,
        then_plain _ _ _ (4 ∷ []) (_, refl, refl)
            (then_plain _ _ _ (2 ∷ 1 ∷ []) (_, refl, refl) (record { awards = Seats (3 ∷ 1 ∷ []) ∷ []; each = (record { choice = Decided (3 ∷ 1 ∷ []); chosen = undisputed Webster (2 ∷ 1 ∷ []) (0 ∷ 0 ∷ []) (3 ∷ 1 ∷ []) refl refl refl []; is = refl }, tt); is = refl })),
        (
          Column (1 ∷ 2 ∷ 1 ∷ 0 ∷ []) _,
          then_plain _ _ _ (3 ∷ 1 ∷ []) (then_plain _ _ _ (3 ∷ 1 ∷ []) (_, refl, refl) (then_plain _ _ _ (0 ∷ 0 ∷ []) (_, refl, refl) refl))
              (then_plain _ _ _ (2 ∷ 6 ∷ 4 ∷ 1 ∷ []) (_, refl, refl)
              (record {
                awards = Seats (1 ∷ 2 ∷ []) ∷ Seats (1 ∷ 0 ∷ []) ∷ [];
                each = (
                  record { choice = Decided (1 ∷ 2 ∷ []); chosen = undisputed Webster (2 ∷ 6 ∷ []) (0 ∷ 0 ∷ []) (1 ∷ 2 ∷ []) refl refl refl []; is = refl },
                  (record { choice = Decided (1 ∷ 0 ∷ []); chosen = undisputed Webster (4 ∷ 1 ∷ []) (0 ∷ 0 ∷ []) (1 ∷ 0 ∷ []) refl refl refl []; is = refl }, tt),
                );
                is = refl;
              })),
          (
            plain (2 ∷ 3 ∷ []),
            then_plain _ _ _ (1 ∷ 2 ∷ 1 ∷ 1 ∷ []) (then_plain _ _ _ (1 ∷ 2 ∷ 1 ∷ 0 ∷ []) (_, refl, refl) (then_plain _ _ _ (0 ∷ 0 ∷ 0 ∷ 1 ∷ []) (_, refl, refl) refl)) refl,
            (
              Column (2 ∷ 3 ∷ []) _,
              then_plain _ _ _ (4 ∷ []) (_, refl, refl)
                  (then_plain _ _ _ (6 ∷ 7 ∷ []) (then_plain _ _ _ (2 ∷ 6 ∷ 4 ∷ 1 ∷ []) (_, refl, refl) refl)
                  (then_plain _ _ _ (2 ∷ 3 ∷ []) (_, refl, refl)
                  (record {
                    awards = Seats (2 ∷ 3 ∷ []) ∷ [];
                    each = (
                      record { growth = GrownTo 5; least = grown_after; comes = record { choice = Decided (2 ∷ 3 ∷ []); chosen = undisputed Webster (6 ∷ 7 ∷ []) (0 ∷ 0 ∷ []) (2 ∷ 3 ∷ []) refl refl refl []; is = refl } },
                      tt,
                    );
                    is = refl;
                  }))),
              (
                Column (1 ∷ 2 ∷ 1 ∷ 1 ∷ []) _,
                then_plain _ _ _ (2 ∷ 3 ∷ []) (_, refl, refl)
                    (then_plain _ _ _ (2 ∷ 6 ∷ 4 ∷ 1 ∷ []) (_, refl, refl)
                    (then_plain _ _ _ (0 ∷ 0 ∷ 0 ∷ 1 ∷ []) (_, refl, refl)
                    (record {
                      awards = Seats (1 ∷ 1 ∷ []) ∷ Seats (2 ∷ 1 ∷ []) ∷ [];
                      each = (
                        record { choice = Decided (1 ∷ 1 ∷ []); chosen = undisputed Webster (2 ∷ 4 ∷ []) (0 ∷ 0 ∷ []) (1 ∷ 1 ∷ []) refl refl refl []; is = refl },
                        (record { choice = Decided (2 ∷ 1 ∷ []); chosen = undisputed Webster (6 ∷ 1 ∷ []) (0 ∷ 1 ∷ []) (2 ∷ 1 ∷ []) refl refl refl []; is = refl }, tt),
                      );
                      is = refl;
                    }))),
                refl,
              ),
            ),
          ),
        ),
      ),
    ),
  )

  after : Gives (law_of_2013 at) more_votes (2 ∷ 3 ∷ [])
  after = gives (law_of_2013 at) more_votes refl are_more_votes refl after_run.0 after_run.1 (1 ∷ 2 ∷ 1 ∷ 1 ∷ []) refl (2 ∷ 3 ∷ []) refl

  pub lists_after : GivesLists (law_of_2013 at) more_votes (1 ∷ 2 ∷ 1 ∷ 1 ∷ [])
  lists_after = gives_lists (law_of_2013 at) more_votes refl are_more_votes refl after_run.0 after_run.1 (1 ∷ 2 ∷ 1 ∷ 1 ∷ []) refl (1 ∷ 2 ∷ 1 ∷ 1 ∷ []) refl

pub vote_costs_by_growth : VoteCostsByGrowth
vote_costs_by_growth at = record {
  returns = are_returns;
  gain = record { before = votes 1; had = refl; is = are_votes 2 (omega arith); counted = omega arith; valid = omega arith };
  had = before at;
  have = after at;
}
