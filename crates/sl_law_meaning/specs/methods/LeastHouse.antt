-- The least house in which every allocation meets the minima (docs/methods.md, section 5).
use Rattle.std.specs.Prelude.{ℕ, ◌-◌, ◌≤◌, List, [], ◌∷◌, sum, slice_index, nat_eq, if◌then◌else◌}
use Rattle.sl_base_quotients.specs.declared.method.Divisor.{Divisor}
use Rattle.sl_law_meaning.specs.methods.Field.{InField, IsEmptyField, no_minima}
use Rattle.sl_law_meaning.specs.methods.Allocations.{IsDivisorAllocation}

-- the minima outside the field, and 0 in it
abbrev pub outside_minima : List ℕ → List ℕ → List ℕ
outside_minima (v ∷ vs) (m ∷ ms) = (if nat_eq v 0 then m else 0) ∷ outside_minima vs ms
outside_minima vs ms = []

-- Z: the sum of the minima outside the field
abbrev pub outside_sum : List ℕ → List ℕ → ℕ
outside_sum v m = sum (outside_minima v m)

-- s meets the field's minima
abbrev pub Meets : List ℕ → List ℕ → List ℕ → Type 0
Meets v m s = (i : ℕ) → InField v i → slice_index m i ≤ slice_index s i

-- every divisor allocation of that many seats to the field, without minima, meets the field's minima
abbrev pub AllMeet : Divisor → List ℕ → List ℕ → ℕ → Type 0
AllMeet method v m seats = (t : List ℕ) → IsDivisorAllocation method v (no_minima v) seats t → Meets v m t

-- a house that a growth from `seats` up to the cap may end with
pub record Serves (method : Divisor) (v m : List ℕ) (seats cap house : ℕ) : Type 0 where
  pub from : seats ≤ house
  pub up_to : house ≤ cap
  pub outside : outside_sum v m ≤ house
  pub met : AllMeet method v m (house - outside_sum v m)

-- what a growth comes to: a house, or a fault: there is no list with votes (the field is empty), or no house up to the cap serves
pub data Growth : Type 0 where
  GrownTo : (house : ℕ) → Growth
  EmptyField : Growth
  AboveCap : Growth

-- what a growth from `seats` up to the cap comes to: the least house that serves, if there is a field
abbrev pub IsGrowth : Divisor → List ℕ → List ℕ → ℕ → ℕ → Growth → Type 0
IsGrowth method v m seats cap (GrownTo house) =
    ¬ IsEmptyField v × Serves method v m seats cap house × ((h : ℕ) → Serves method v m seats cap h → house ≤ h)
IsGrowth method v m seats cap EmptyField = IsEmptyField v
IsGrowth method v m seats cap AboveCap = ¬ IsEmptyField v × ((h : ℕ) → ¬ Serves method v m seats cap h)

-- the allocations of a house grown to: the entries outside the field have their minimum, and those of the field what their
-- quotients give
abbrev pub IsGrownAllocation : Divisor → List ℕ → List ℕ → ℕ → List ℕ → Type 0
IsGrownAllocation method v m house = IsDivisorAllocation method v (outside_minima v m) house
