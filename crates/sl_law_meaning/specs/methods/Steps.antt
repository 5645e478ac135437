-- The step of an awarded seat: one plus the number of awarded seats that rank strictly higher (docs/methods.md, section 6).
use Rattle.std.specs.Prelude.{ℕ, ◌+◌, ◌-◌, ◌*◌, Bool, List, length, slice_index, nat_lt}
use Rattle.std.specs.List.{sum_by, count_by, range_with_len}
use Rattle.sl_base_quotients.specs.Quotient.{Quotient}

-- x is smaller than y
abbrev pub is_below : Quotient → Quotient → Bool
is_below x y = nat_lt (x.num * y.den) (y.num * x.den)

-- the seats that an entry with s seats got above its base, each by the number of seats that the entry held before it
abbrev pub awarded_seats : List ℕ → List ℕ → ℕ → List ℕ
awarded_seats base s i = range_with_len (slice_index base i) (slice_index s i - slice_index base i)

-- how many of the seats awarded in s above the base rank higher than x
abbrev pub ranking_above : (ℕ → ℕ → Quotient) → List ℕ → List ℕ → Quotient → ℕ
ranking_above rank base s x =
    sum_by (λ i. count_by (λ a. is_below x (rank i a)) (awarded_seats base s i)) (range_with_len 0 (length s))

-- the step of the seat that entry i got when it held a
abbrev pub step_of : (ℕ → ℕ → Quotient) → List ℕ → List ℕ → ℕ → ℕ → ℕ
step_of rank base s i a = 1 + ranking_above rank base s (rank i a)
