-- The small elections with several scopes, stage by stage.
use Rattle.std.proofs.Common.{◌≡◌, ℕ, true, [], ◌∷◌, refl}
use Rattle.sl_base_quotients.specs.declared.method.Divisor.TheVariants.{Webster}
use Rattle.sl_law_meaning.specs.declared.fault.FaultKind.TheVariants as fault
use Rattle.sl_law_meaning.specs.declared.table.Outcome.TheVariants as outcome
use Rattle.sl_law_meaning.specs.methods.Allocations.{IsDivisorAllocation}
use Rattle.sl_law_meaning.specs.methods.Ties.{Decided, Tied, IsChoice}
use Rattle.sl_law_meaning.specs.laws.Ladders.{divisor_ladders}
use Rattle.sl_law_meaning.specs.meaning.Splits.{Seats, Refused}
use Rattle.sl_law_meaning.specs.meaning.Results.{Column, Fault}
use Rattle.sl_law_meaning.specs.meaning.Means.{Stopped}
use Rattle.sl_law_examples.specs.ScopeExamples.{SeveralScopes}
use Rattle.sl_law_meaning.proofs.methods.DivisorProofs.{divisor_tops}
use Rattle.sl_law_examples.proofs.SettledTests.{settled_test}
use Rattle.sl_law_meaning.proofs.meaning.PlainRuns.{then_plain}
use Rattle.sl_law_meaning.proofs.meaning.MeaningProofs.{same_itself}
use Rattle.sl_law_examples.proofs.WorkedExamples.{decided, webster_thirty_ten}

-- one seat for the only list
one_seat : (v : ℕ) → settled_test (divisor_ladders Webster (v ∷ []) (0 ∷ [])) (1 ∷ []) ≡ true → IsChoice (IsDivisorAllocation Webster (v ∷ []) (0 ∷ []) 1) [] (Decided (1 ∷ []))
one_seat v settled =
    let tops = divisor_tops Webster (v ∷ []) (0 ∷ []) refl in
    (tops.choice 1 [] (Decided (1 ∷ []))).0 (decided (divisor_ladders Webster (v ∷ []) (0 ∷ [])) tops.falling (1 ∷ []) refl settled [])

-- one seat for each of two Länder
one_each : IsChoice (IsDivisorAllocation Webster (1000 ∷ 1000 ∷ []) (0 ∷ 0 ∷ []) 2) [] (Decided (1 ∷ 1 ∷ []))
one_each =
    let tops = divisor_tops Webster (1000 ∷ 1000 ∷ []) (0 ∷ 0 ∷ []) refl in
    (tops.choice 2 [] (Decided (1 ∷ 1 ∷ []))).0 (decided (divisor_ladders Webster (1000 ∷ 1000 ∷ []) (0 ∷ 0 ∷ [])) tops.falling (1 ∷ 1 ∷ []) refl refl [])

pub several_scopes : SeveralScopes
several_scopes = record {
  lot_of_parties = record {
    ordered = _;
    is = record {
      run = _;
      stages = (
        Column (1 ∷ 1 ∷ []) _,
        then_plain _ _ _ (2 ∷ []) (_, refl, refl)
            (then_plain _ _ _ (30 ∷ 10 ∷ []) (then_plain _ _ _ (30 ∷ 10 ∷ []) (_, refl, refl) refl)
            (record { awards = Seats (1 ∷ 1 ∷ []) ∷ []; each = (record { choice = Decided (1 ∷ 1 ∷ []); chosen = webster_thirty_ten.lot; is = refl }, tt); is = refl })),
        (
          Column (1 ∷ 1 ∷ []) _,
          then_plain _ _ _ (1 ∷ 1 ∷ []) (_, refl, refl)
              (then_plain _ _ _ (30 ∷ 10 ∷ []) (_, refl, refl)
              (record {
                awards = Seats (1 ∷ []) ∷ Seats (1 ∷ []) ∷ [];
                each = (record { choice = Decided (1 ∷ []); chosen = one_seat 30 refl; is = refl }, (record { choice = Decided (1 ∷ []); chosen = one_seat 10 refl; is = refl }, tt));
                is = refl;
              })),
          refl,
        ),
      );
      ends = record { base = 1 ∷ 1 ∷ []; is_base = refl; seated = refl };
    };
    same = same_itself (outcome.Table _);
  };
  other_lot = record {
    ordered = _;
    is = record {
      run = Stopped _;
      stages = (
        Fault _,
        then_plain _ _ _ (2 ∷ []) (_, refl, refl)
            (then_plain _ _ _ (30 ∷ 10 ∷ []) (then_plain _ _ _ (30 ∷ 10 ∷ []) (_, refl, refl) refl)
            (record { awards = Refused _ ∷ []; each = (record { choice = Tied 1 (0 ∷ 1 ∷ []); chosen = webster_thirty_ten.tie; is = refl }, tt); is = refl })),
        refl,
      );
      ends = refl;
    };
    same = refl;
  };
  no_list = record {
    ordered = _;
    is = record {
      run = Stopped _;
      stages = (
        Column (1 ∷ 1 ∷ []) _,
        then_plain _ _ _ (2 ∷ []) (_, refl, refl)
            (then_plain _ _ _ (1000 ∷ 1000 ∷ []) (_, refl, refl)
            (record { awards = Seats (1 ∷ 1 ∷ []) ∷ []; each = (record { choice = Decided (1 ∷ 1 ∷ []); chosen = one_each; is = refl }, tt); is = refl })),
        (
          Fault _,
          then_plain _ _ _ (1 ∷ 1 ∷ []) (_, refl, refl)
              (then_plain _ _ _ (10 ∷ 0 ∷ []) (_, refl, refl)
              (record {
                awards = Seats (1 ∷ []) ∷ Refused fault.NoList ∷ [];
                each = (record { choice = Decided (1 ∷ []); chosen = one_seat 10 refl; is = refl }, (refl, tt));
                is = refl;
              })),
          refl,
        ),
      );
      ends = refl;
    };
    same = refl;
  };
}
