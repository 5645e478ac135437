-- The election under the law of 1956, stage by stage.
use Rattle.std.proofs.Common.{◌≡◌, ℕ, [], ◌∷◌, true, sum, refl}
use Rattle.std.specs.Prelude.{codes}
use Rattle.sl_base_quotients.specs.declared.method.Divisor.TheVariants.{Jefferson}
use Rattle.sl_law_meaning.specs.declared.table.Outcome.TheVariants as outcome
use Rattle.sl_law_meaning.specs.methods.Allocations.{IsDivisorAllocation}
use Rattle.sl_law_meaning.specs.book.Trees.{StageTree}
use Rattle.sl_law_meaning.specs.methods.Ties.{Decided, IsChoice}
use Rattle.sl_law_meaning.specs.laws.Ladders.{divisor_ladders}
use Rattle.sl_law_meaning.specs.meaning.Splits.{Seats}
use Rattle.sl_law_meaning.specs.meaning.Results.{Column, plain}
use Rattle.sl_law_meaning.specs.meaning.Means.{nothing_known, context_of}
use Rattle.sl_law_examples.specs.LawExample.{pool, upper, lower, law_of_1956, two_lands, table_of_1956, LawOf1956}
use Rattle.sl_law_meaning.proofs.methods.DivisorProofs.{divisor_tops}
use Rattle.sl_law_examples.proofs.SettledTests.{settled_test}
use Rattle.sl_law_meaning.proofs.meaning.PlainRuns.{to_means, then_plain}
use Rattle.sl_law_meaning.proofs.meaning.MeaningProofs.{same_itself}
use Rattle.sl_law_examples.proofs.WorkedExamples.{decided}

-- two entries whose seats nobody disputes
undisputed : (v w s t : ℕ) → settled_test (divisor_ladders Jefferson (v ∷ w ∷ []) (0 ∷ 0 ∷ [])) (s ∷ t ∷ []) ≡ true →
    IsChoice (IsDivisorAllocation Jefferson (v ∷ w ∷ []) (0 ∷ 0 ∷ []) (sum (s ∷ t ∷ []))) [] (Decided (s ∷ t ∷ []))
undisputed v w s t settled =
    let tops = divisor_tops Jefferson (v ∷ w ∷ []) (0 ∷ 0 ∷ []) refl in
    (tops.choice (sum (s ∷ t ∷ [])) [] (Decided (s ∷ t ∷ []))).0 (decided (divisor_ladders Jefferson (v ∷ w ∷ []) (0 ∷ 0 ∷ [])) tops.falling (s ∷ t ∷ []) refl settled [])

stage_pool : StageTree
stage_pool = record { name = codes "pool"; at = 0; expr = pool }

stage_upper : StageTree
stage_upper = record { name = codes "upper"; at = 0; expr = upper }

stage_lower : StageTree
stage_lower = record { name = codes "lower"; at = 0; expr = lower }

pub law_of_1956_holds : LawOf1956
unfolding stage_pool stage_upper stage_lower
law_of_1956_holds = record {
  ordered = outcome.Table table_of_1956;
  is = record {
    run = _;
    stages = (
      plain (10 ∷ []),
      to_means law_of_1956 two_lands (context_of nothing_known stage_pool) pool refl (10 ∷ []) (10 ∷ [], 0 ∷ [], refl, (0 ∷ 0 ∷ [], refl, refl), refl),
      (
        Column (7 ∷ 3 ∷ []) _,
        then_plain _ _ _ (10 ∷ []) (_, refl, refl)
            (then_plain _ _ _ (700 ∷ 300 ∷ []) (then_plain _ _ _ (600 ∷ 200 ∷ 100 ∷ 100 ∷ []) (_, refl, refl) refl)
            (record { awards = Seats (7 ∷ 3 ∷ []) ∷ []; each = (record { choice = Decided (7 ∷ 3 ∷ []); chosen = undisputed 700 300 7 3 refl; is = refl }, tt); is = refl })),
        (
          Column (6 ∷ 2 ∷ 1 ∷ 1 ∷ []) _,
          then_plain _ _ _ (7 ∷ 3 ∷ []) (_, refl, refl)
              (then_plain _ _ _ (600 ∷ 200 ∷ 100 ∷ 100 ∷ []) (_, refl, refl)
              (record {
                awards = Seats (6 ∷ 1 ∷ []) ∷ Seats (2 ∷ 1 ∷ []) ∷ [];
                each = (
                  record { choice = Decided (6 ∷ 1 ∷ []); chosen = undisputed 600 100 6 1 refl; is = refl },
                  (record { choice = Decided (2 ∷ 1 ∷ []); chosen = undisputed 200 100 2 1 refl; is = refl }, tt),
                );
                is = refl;
              })),
          refl,
        ),
      ),
    );
    ends = record { base = 6 ∷ 2 ∷ 1 ∷ 1 ∷ []; is_base = refl; seated = refl };
  };
  same = same_itself (outcome.Table table_of_1956);
}
