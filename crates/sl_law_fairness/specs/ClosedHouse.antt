-- The house that Webster's method grows to, in closed form: by the divisor with which an entry has just its minimum.
-- Each law is the contract of a function of `laws`.
use Rattle.std.specs.Prelude.{◌≡◌, ◌↔◌, ◌⊎◌, ℕ, ◌+◌, ◌-◌, ◌*◌, ◌/◌, ◌<◌, ◌≤◌, List, map, max, sum, slice_index}
use Rattle.sl_base_quotients.specs.declared.method.Divisor.TheVariants.{Webster}
use Rattle.sl_law_meaning.specs.methods.Field.{InField, IsEmptyField}
use Rattle.sl_law_meaning.specs.methods.LeastHouse.{outside_sum, GrownTo, IsGrowth}
use Rattle.sl_law_fairness.specs.NearQuota.{in_field}

-- all votes divided by v_q / (m_q - 1/2) and rounded to the nearest number, a half up: the least seats with which q has its minimum surely
abbrev pub seats_by : List ℕ → List ℕ → ℕ → List ℕ
seats_by v m q = map (λ x. (x * (2 * slice_index m q - 1) + slice_index v q) / (2 * slice_index v q)) v

abbrev pub needed_by : List ℕ → List ℕ → ℕ → ℕ
needed_by v m q = sum (seats_by v m q)

-- the entry has votes and a minimum
abbrev pub HasMinimum : List ℕ → List ℕ → ℕ → Type 0
HasMinimum v m q = InField v q × (0 < slice_index m q)

-- the house is the greatest of the first house, of the minima outside the field, and of these with what an entry needs
pub record IsGreatestNeed (v m : List ℕ) (pool house : ℕ) : Type 0 where
  pub from : pool ≤ house
  pub enough : (q : ℕ) → HasMinimum v m q → outside_sum v m + needed_by v m q ≤ house
  pub one_of : (house ≡ max pool (outside_sum v m)) ⊎ ((q : ℕ) × HasMinimum v m q × (house ≡ outside_sum v m + needed_by v m q))

abbrev pub ClosedHouse : Type 0
ClosedHouse =
    (v m : List ℕ) (pool cap house : ℕ) →
    IsGrowth Webster v m pool cap (GrownTo house) ↔ (¬ IsEmptyField v × (house ≤ cap) × IsGreatestNeed v m pool house)

-- of two entries, that with the smaller divisor, its votes over its minimum less a half, needs no fewer seats: so the least divisor decides
abbrev pub LeastDivisorDecides : Type 0
LeastDivisorDecides =
    (v m : List ℕ) (c q : ℕ) → HasMinimum v m c → HasMinimum v m q →
    slice_index v c * (2 * slice_index m q - 1) ≤ slice_index v q * (2 * slice_index m c - 1) → needed_by v m q ≤ needed_by v m c

-- a house that is more than that of its start has no more seats than the minimum of an entry asks for, and half a seat for each entry with
-- votes: S - Z ≤ (m_q - 1/2) * V / v_q + n / 2
abbrev pub GrowthBound : Type 0
GrowthBound =
    (v m : List ℕ) (pool cap house : ℕ) → IsGrowth Webster v m pool cap (GrownTo house) → max pool (outside_sum v m) < house →
    (q : ℕ) × HasMinimum v m q
    × (2 * slice_index v q * (house - outside_sum v m) ≤ (2 * slice_index m q - 1) * sum v + slice_index v q * in_field v)
