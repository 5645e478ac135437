-- Worked scopes, small enough to follow by hand (docs/methods.md).
use Rattle.std.specs.Prelude.{◌≡◌, ℕ, true, false, List, [], ◌∷◌, slice_index}
use Rattle.sl_base_quotients.specs.declared.method.Divisor.TheVariants.{Adams, Webster, Jefferson}
use Rattle.sl_base_quotients.specs.Quotient.{quotient}
use Rattle.sl_law_meaning.specs.methods.Allocations.{IsDivisorAllocation}
use Rattle.sl_law_meaning.specs.methods.Hamilton.{IsHamiltonAllocation}
use Rattle.sl_law_meaning.specs.methods.Covering.{IsCovering}
use Rattle.sl_law_meaning.specs.methods.Ties.{IsChoice, Decided, Tied}
use Rattle.sl_law_meaning.specs.methods.LeastHouse.{IsGrowth, GrownTo}
use Rattle.sl_law_meaning.specs.methods.Steps.{step_of}

-- webster, weights 30 and 10: in a house of 2 both are tied for one seat, since 30 / (3/2) is 10 / (1/2)
abbrev pub two_seats : List ℕ → Type 0
two_seats s = IsDivisorAllocation Webster (30 ∷ 10 ∷ []) (0 ∷ 0 ∷ []) 2 s

abbrev pub three_seats : List ℕ → Type 0
three_seats s = IsDivisorAllocation Webster (30 ∷ 10 ∷ []) (0 ∷ 0 ∷ []) 3 s

abbrev pub step_of_three : ℕ → ℕ → ℕ
step_of_three i a = step_of (λ j b. quotient Webster (slice_index (30 ∷ 10 ∷ []) j) b) (0 ∷ 0 ∷ []) (2 ∷ 1 ∷ []) i a

pub record WebsterThirtyTen : Type 0 where
  pub tie : IsChoice two_seats [] (Tied 1 (0 ∷ 1 ∷ []))
  pub half_a_lot : IsChoice two_seats (1 ∷ []) (Tied 1 (0 ∷ 1 ∷ []))
  pub lot : IsChoice two_seats (1 ∷ 0 ∷ []) (Decided (1 ∷ 1 ∷ []))
  pub three : (lot : List ℕ) → IsChoice three_seats lot (Decided (2 ∷ 1 ∷ []))
  pub steps : (step_of_three 0 0 ≡ 1) × (step_of_three 0 1 ≡ 2) × (step_of_three 1 0 ≡ 2)
  -- in a house of 2 only one of the two allocations gives the second entry its seat
  pub growth : IsGrowth Webster (30 ∷ 10 ∷ []) (0 ∷ 1 ∷ []) 2 9 (GrownTo 3)

-- adams gives the first seats by infinite quotients, whatever the weights; minima are no seats on top
pub record FirstSeats : Type 0 where
  pub infinite : IsChoice (IsDivisorAllocation Adams (3 ∷ 2 ∷ []) (0 ∷ 0 ∷ []) 1) [] (Tied 1 (0 ∷ 1 ∷ []))
  pub minima : IsChoice (IsDivisorAllocation Jefferson (100 ∷ 10 ∷ []) (0 ∷ 2 ∷ []) 3) [] (Decided (1 ∷ 2 ∷ []))

-- hamilton, weights 51, 18, 16 and 15: in a house of 5 more than half of the weights has 2 seats, and 3 if it is preferred
abbrev pub four_lists : List ℕ
four_lists = 51 ∷ 18 ∷ 16 ∷ 15 ∷ []

pub record HamiltonMajority : Type 0 where
  pub plain : IsChoice (IsHamiltonAllocation false four_lists 5) [] (Decided (2 ∷ 1 ∷ 1 ∷ 1 ∷ []))
  pub preferred : IsChoice (IsHamiltonAllocation true four_lists 5) [] (Decided (3 ∷ 1 ∷ 1 ∷ 0 ∷ []))

-- two seats for three winners, of whom the first has the greatest share
pub record ThreeWinners : Type 0 where
  pub seated : IsChoice (IsCovering (300 ∷ 400 ∷ 390 ∷ []) (500 ∷ 1000 ∷ 900 ∷ []) 2) [] (Decided (1 ∷ 0 ∷ 1 ∷ []))
  pub tie : IsChoice (IsCovering (300 ∷ 400 ∷ 360 ∷ []) (500 ∷ 1000 ∷ 900 ∷ []) 2) [] (Tied 1 (1 ∷ 2 ∷ []))
