-- How divisor allocations answer to a larger house (Balinski and Young, Fair Representation, appendix A).
-- Each law is the contract of a function of `laws`.
use Rattle.std.specs.Prelude.{◌≡◌, ℕ, ◌+◌, ◌<◌, ◌≤◌, List, [], ◌∷◌, slice_index}
use Rattle.sl_base_quotients.specs.declared.method.Divisor.{Divisor}
use Rattle.sl_law_meaning.specs.methods.Field.{InField}
use Rattle.sl_law_meaning.specs.methods.Allocations.{IsDivisorAllocation}
use Rattle.sl_law_meaning.specs.methods.Ties.{IsTied}
use Rattle.sl_law_meaning.specs.laws.Ladders.{RaisesEach}

-- with a field, each allocation becomes one of a seat more by one more seat for one entry
abbrev pub HouseMonotone : Type 0
HouseMonotone =
    (method : Divisor) (v m : List ℕ) (seats : ℕ) (s : List ℕ) →
    IsDivisorAllocation method v m seats s → (f : ℕ) → InField v f →
    (i : ℕ) × (t : List ℕ) × RaisesEach (i ∷ []) s t × IsDivisorAllocation method v m (seats + 1) t

-- an entry with fewer seats in the larger house has one fewer, and is tied in both
abbrev pub LargerHouse : Type 0
LargerHouse =
    (method : Divisor) (v m : List ℕ) (seats house : ℕ) (s t : List ℕ) → seats ≤ house →
    IsDivisorAllocation method v m seats s → IsDivisorAllocation method v m house t →
    (i : ℕ) → slice_index t i < slice_index s i →
    (slice_index t i + 1 ≡ slice_index s i)
    × IsTied (IsDivisorAllocation method v m seats) i × IsTied (IsDivisorAllocation method v m house) i
