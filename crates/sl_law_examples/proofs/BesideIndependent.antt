-- Two seats, of which an independent has one, by the statute of 2013, stage by stage.
use Rattle.std.proofs.Common.{ℕ, zero, suc, [], ◌∷◌, arith, refl, sym, subst}
use Rattle.std.specs.Prelude.{codes}
use Rattle.sl_base_quotients.specs.declared.method.Divisor.TheVariants.{Webster}
use Rattle.sl_law_meaning.specs.declared.fact.Fact.TheVariants as facts
use Rattle.sl_law_meaning.specs.methods.LeastHouse.{Meets, GrownTo, IsGrowth}
use Rattle.sl_law_meaning.specs.methods.Ties.{Decided}
use Rattle.sl_law_meaning.specs.returns.Election.{IsElection}
use Rattle.sl_law_meaning.specs.meaning.Results.{Column, plain}
use Rattle.sl_law_meaning.specs.meaning.Splits.{Seats}
use Rattle.sl_law_meaning.specs.meaning.Means.{Known, Through, nothing_known, context_of, StagesMean}
use Rattle.sl_law_meaning.proofs.Elections.{is_with_list, is_with_win}
use Rattle.sl_law_meaning.proofs.meaning.PlainRuns.{to_means, then_plain}
use Rattle.sl_law_statutes.specs.Trees.{pool, law_of_2013}
use Rattle.sl_law_examples.specs.VotesThatCost.{votes}
use Rattle.sl_law_examples.specs.Tables.{independent, beside_independent, HalfOfTwo}
use Rattle.sl_law_examples.proofs.Allocated.{divisor_only}
use Rattle.sl_law_examples.proofs.SmallReturns.{are_votes, is_independent, is_two_by_two, gives, gives_total, undisputed}

are_returns : IsElection beside_independent
are_returns =
    let parties = is_two_by_two 2 2 2 (omega arith) (omega arith) (omega arith) (omega arith) in
    let one = is_with_list _ 0 0 (votes 1) parties (omega arith) (omega arith) (are_votes 1 (omega arith)) in
    let two = is_with_list _ 1 0 (votes 2) one (omega arith) (omega arith) (are_votes 2 (omega arith)) in
    let three = is_with_list _ 1 1 (votes 1) two (omega arith) (omega arith) (are_votes 1 (omega arith)) in
    is_with_win _ (codes "x1") (independent 0) three refl (is_independent 2 2 0 (omega arith))

grown : IsGrowth Webster (3 ∷ 1 ∷ []) (1 ∷ 0 ∷ []) 1 4000 (GrownTo 1)
grown = (
  λ empty. empty 0 (omega arith),
  record {
    from = omega arith;
    up_to = omega arith;
    outside = omega arith;
    met = λ t h. subst (Meets (3 ∷ 1 ∷ []) (1 ∷ 0 ∷ [])) (sym ((divisor_only Webster (3 ∷ 1 ∷ []) (0 ∷ 0 ∷ []) (1 ∷ 0 ∷ []) refl refl refl).1 t h)) meets;
  },
  λ h s. s.from,
) where
  meets : Meets (3 ∷ 1 ∷ []) (1 ∷ 0 ∷ []) (1 ∷ 0 ∷ [])
  meets zero f = omega arith
  meets (suc zero) f = omega arith
  meets (suc (suc i)) f = omega arith

module _ (at : ℕ → ℕ) where
  abbrev one_run : (k : Known) × StagesMean (law_of_2013 at) beside_independent nothing_known (law_of_2013 at).stages (Through k)
  one_run = (
    _,
    (
      plain (1 ∷ []),
      to_means (law_of_2013 at) beside_independent (context_of nothing_known (pool at facts.Outside)) (pool at facts.Outside).expr refl (1 ∷ []) (2 ∷ [], 1 ∷ [], refl, (1 ∷ 0 ∷ [], refl, refl), refl),
      (
        Column (1 ∷ 1 ∷ []) _,
        then_plain _ _ _ (2 ∷ []) (_, refl, refl)
            (then_plain _ _ _ (2 ∷ 2 ∷ []) (_, refl, refl) (record { awards = Seats (1 ∷ 1 ∷ []) ∷ []; each = (record { choice = Decided (1 ∷ 1 ∷ []); chosen = undisputed Webster (2 ∷ 2 ∷ []) (0 ∷ 0 ∷ []) (1 ∷ 1 ∷ []) refl refl refl []; is = refl }, tt); is = refl })),
        (
          Column (0 ∷ 0 ∷ 1 ∷ 0 ∷ []) _,
          then_plain _ _ _ (0 ∷ 1 ∷ []) (then_plain _ _ _ (1 ∷ 1 ∷ []) (_, refl, refl) (then_plain _ _ _ (1 ∷ 0 ∷ []) (_, refl, refl) refl))
              (then_plain _ _ _ (1 ∷ 0 ∷ 2 ∷ 1 ∷ []) (_, refl, refl)
              (record {
                awards = Seats (0 ∷ []) ∷ Seats (1 ∷ 0 ∷ []) ∷ [];
                each = (
                  record { choice = Decided (0 ∷ []); chosen = undisputed Webster (1 ∷ []) (0 ∷ []) (0 ∷ []) refl refl refl []; is = refl },
                  (record { choice = Decided (1 ∷ 0 ∷ []); chosen = undisputed Webster (2 ∷ 1 ∷ []) (0 ∷ 0 ∷ []) (1 ∷ 0 ∷ []) refl refl refl []; is = refl }, tt),
                );
                is = refl;
              })),
          (
            plain (1 ∷ 0 ∷ []),
            then_plain _ _ _ (0 ∷ 0 ∷ 1 ∷ 0 ∷ []) (then_plain _ _ _ (0 ∷ 0 ∷ 1 ∷ 0 ∷ []) (_, refl, refl) (then_plain _ _ _ (0 ∷ 0 ∷ 0 ∷ 0 ∷ []) (_, refl, refl) refl)) refl,
            (
              Column (1 ∷ 0 ∷ []) _,
              then_plain _ _ _ (1 ∷ []) (_, refl, refl)
                  (then_plain _ _ _ (3 ∷ 1 ∷ []) (then_plain _ _ _ (1 ∷ 0 ∷ 2 ∷ 1 ∷ []) (_, refl, refl) refl)
                  (then_plain _ _ _ (1 ∷ 0 ∷ []) (_, refl, refl)
                  (record {
                    awards = Seats (1 ∷ 0 ∷ []) ∷ [];
                    each = (
                      record { growth = GrownTo 1; least = grown; comes = record { choice = Decided (1 ∷ 0 ∷ []); chosen = undisputed Webster (3 ∷ 1 ∷ []) (0 ∷ 0 ∷ []) (1 ∷ 0 ∷ []) refl refl refl []; is = refl } },
                      tt,
                    );
                    is = refl;
                  }))),
              (
                Column (0 ∷ 0 ∷ 1 ∷ 0 ∷ []) _,
                then_plain _ _ _ (1 ∷ 0 ∷ []) (_, refl, refl)
                    (then_plain _ _ _ (1 ∷ 0 ∷ 2 ∷ 1 ∷ []) (_, refl, refl)
                    (then_plain _ _ _ (0 ∷ 0 ∷ 0 ∷ 0 ∷ []) (_, refl, refl)
                    (record {
                      awards = Seats (0 ∷ 1 ∷ []) ∷ Seats (0 ∷ []) ∷ [];
                      each = (
                        record { choice = Decided (0 ∷ 1 ∷ []); chosen = undisputed Webster (1 ∷ 2 ∷ []) (0 ∷ 0 ∷ []) (0 ∷ 1 ∷ []) refl refl refl []; is = refl },
                        (record { choice = Decided (0 ∷ []); chosen = undisputed Webster (1 ∷ []) (0 ∷ []) (0 ∷ []) refl refl refl []; is = refl }, tt),
                      );
                      is = refl;
                    }))),
                refl,
              ),
            ),
          ),
        ),
      ),
    ),
  )

pub half_of_two : HalfOfTwo
half_of_two = record {
  seats = λ at. gives (law_of_2013 at) beside_independent refl are_returns refl (one_run at).0 (one_run at).1 (0 ∷ 0 ∷ 1 ∷ 0 ∷ []) refl (1 ∷ 0 ∷ []) refl;
  total = λ at. gives_total (law_of_2013 at) beside_independent refl are_returns refl (one_run at).0 (one_run at).1 (0 ∷ 0 ∷ 1 ∷ 0 ∷ []) refl 2 refl;
}
