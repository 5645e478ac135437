-- Divisor allocations, by the min-max inequality of Balinski and Young (docs/methods.md, section 2).
use Rattle.std.specs.Prelude.{◌≡◌, ℕ, ◌-◌, ◌<◌, ◌≤◌, List, length, sum, slice_index}
use Rattle.sl_base_quotients.specs.declared.method.Divisor.{Divisor}
use Rattle.sl_base_quotients.specs.Quotient.{AtMost, quotient}
use Rattle.sl_law_meaning.specs.methods.Field.{InField}

-- s is in A(seats, v, m). Within the field, a last seat beyond a minimum was given by a quotient (of i) that is at least each quotient
-- for a next seat (of j)
pub record IsDivisorAllocation (method : Divisor) (v m : List ℕ) (seats : ℕ) (s : List ℕ) : Type 0 where
  pub same_length : length s ≡ length v
  pub total : sum s ≡ seats
  pub minima : (i : ℕ) → slice_index m i ≤ slice_index s i
  pub outside : (i : ℕ) → slice_index v i ≡ 0 → slice_index s i ≡ slice_index m i
  pub min_max : (i j : ℕ) → InField v i → InField v j → slice_index m i < slice_index s i →
      AtMost (quotient method (slice_index v j) (slice_index s j)) (quotient method (slice_index v i) (slice_index s i - 1))
