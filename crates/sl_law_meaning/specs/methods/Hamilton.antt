-- Hamilton allocations, by largest remainders (docs/methods.md, section 3).
use Rattle.std.specs.Prelude.{◌≡◌, ℕ, ◌+◌, ◌*◌, ◌/◌, ◌%◌, ◌⊎◌, ◌&&◌, Bool, List, length, map, sum, slice_index, nat_lt, nat_le, if◌then◌else◌}
use Rattle.sl_base_quotients.specs.Quotient.{Quotient, AtMost}
use Rattle.sl_law_meaning.specs.methods.Field.{InField}

-- an entry's share of the seats, S * v / V: its whole part and its remainder
abbrev pub whole : List ℕ → ℕ → ℕ → ℕ
whole v seats i = seats * slice_index v i / sum v

abbrev pub whole_parts : List ℕ → ℕ → List ℕ
whole_parts v seats = map (λ x. seats * x / sum v) v

abbrev pub remainder : List ℕ → ℕ → ℕ → ℕ
remainder v seats i = seats * slice_index v i % sum v

-- the entry has more than half of the weights, and its whole part is no more than half of the seats
abbrev pub is_leading : List ℕ → ℕ → ℕ → Bool
is_leading v seats i = nat_lt (sum v) (2 * slice_index v i) && nat_le (2 * whole v seats i) seats

-- how an entry ranks: by its remainder r, as (r + 1) / 1 since numerators are positive; under preference a leading entry is
-- infinite, above all remainders
abbrev pub remainder_rank : Bool → List ℕ → ℕ → ℕ → Quotient
remainder_rank prefer v seats i =
    if prefer && is_leading v seats i then record { num = 1; den = 0 } else record { num = remainder v seats i + 1; den = 1 }

-- s is in H(seats, v): in the field whole parts, some of them raised by 1, and what is raised ranks at least as high as what is not
pub record IsHamiltonAllocation (prefer : Bool) (v : List ℕ) (seats : ℕ) (s : List ℕ) : Type 0 where
  pub same_length : length s ≡ length v
  pub total : sum s ≡ seats
  pub outside : (i : ℕ) → slice_index v i ≡ 0 → slice_index s i ≡ 0
  pub shares : (i : ℕ) → InField v i → (slice_index s i ≡ whole v seats i) ⊎ (slice_index s i ≡ whole v seats i + 1)
  pub largest : (i j : ℕ) → InField v i → InField v j →
      slice_index s i ≡ whole v seats i + 1 → slice_index s j ≡ whole v seats j →
      AtMost (remainder_rank prefer v seats j) (remainder_rank prefer v seats i)
