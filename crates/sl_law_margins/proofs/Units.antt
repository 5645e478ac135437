-- Which numbers of units are above or below a claim.
use Rattle.std.proofs.Common.{◌≡◌, ℕ, zero, suc, ◌+◌, ◌-◌, ◌*◌, ◌/◌, ◌^◌, ◌<◌, ◌≤◌, arith}
use Rattle.std.specs.Prelude.{◌↔◌}
use Rattle.std.proofs.Math.Nat.{div-lt_iff_lt-mul, le-div_iff_mul-le}
use Rattle.std.proofs.lemmas.Nat.{mul-le}
use Rattle.sl_base_quotients.specs.declared.method.Divisor.{Divisor}
use Rattle.sl_base_quotients.specs.declared.method.Divisor.TheVariants.{Adams, Dean, Hill, Webster, Jefferson}
use Rattle.sl_base_quotients.specs.Quotient.{Quotient}
use Rattle.sl_law_margins.specs.inner.Needed.{power_of, IsLeast}
use Rattle.sl_law_margins.specs.inner.Units.{IsFrom, IsUpTo, IsUnitsAbove, IsUnitsBelow}

-- powers rise with the weight
pub powers_rise : (method : Divisor) (m n : ℕ) → m ≤ n → power_of method m ≤ power_of method n
powers_rise Adams m n h = h
powers_rise Dean m n h = h
powers_rise Hill m n h = mul-le m m n n h h
powers_rise Webster m n h = h
powers_rise Jefferson m n h = h

pub from_least : (method : Divisor) (power r : ℕ) → IsLeast (λ w. power < power_of method w) r → IsFrom (λ w. power < power_of method w) r
from_least method power r h n = (h.least n, λ le. let up = powers_rise method r n le in let low = h.holds in omega (arith, up, low))

above_plain : (x y n : ℕ) → 0 < y → (x * 10 ^ 12 < n * y) ↔ (x * 10 ^ 12 / y < n)
above_plain x y n pos =
    let iff : (x * 10 ^ 12 / y < n) ↔ (x * 10 ^ 12 < n * y) = div-lt_iff_lt-mul pos in (iff.1, iff.0)

pub above_units : (method : Divisor) (claim : Quotient) (n : ℕ) → 0 < claim.den →
    IsUnitsAbove method claim n ↔ (claim.num * 10 ^ 12 / claim.den < power_of method n)
above_units Adams claim n pos = above_plain claim.num claim.den n pos
above_units Dean claim n pos = above_plain claim.num claim.den n pos
above_units Hill claim n pos = above_plain claim.num claim.den (n * n) pos
above_units Webster claim n pos = above_plain claim.num claim.den n pos
above_units Jefferson claim n pos = above_plain claim.num claim.den n pos

below_plain : (x y n : ℕ) → 0 < x → 0 < y → (n * y < x * 10 ^ 12) ↔ (n ≤ (x * 10 ^ 12 - 1) / y)
below_plain x y n px py =
    let iff : (n ≤ (x * 10 ^ 12 - 1) / y) ↔ (n * y ≤ x * 10 ^ 12 - 1) = le-div_iff_mul-le py in
    ((λ h. iff.1 (omega arith)), (λ h. let l = iff.0 h in omega (arith, l)))

pub below_units : (method : Divisor) (claim : Quotient) (n : ℕ) → 0 < claim.num → 0 < claim.den →
    IsUnitsBelow method claim n ↔ (power_of method n ≤ (claim.num * 10 ^ 12 - 1) / claim.den)
below_units Adams claim n px py = below_plain claim.num claim.den n px py
below_units Dean claim n px py = below_plain claim.num claim.den n px py
below_units Hill claim n px py = below_plain claim.num claim.den (n * n) px py
below_units Webster claim n px py = below_plain claim.num claim.den n px py
below_units Jefferson claim n px py = below_plain claim.num claim.den n px py

-- as the code reads the parts of a claim
pub lowest_is : (method : Divisor) (claim : Quotient) (n d r : ℕ) → n ≡ claim.num → d ≡ claim.den → 0 < claim.den →
    IsLeast (λ w. n * 10 ^ 12 / d < power_of method w) r → IsFrom (IsUnitsAbove method claim) r
lowest_is method claim n d r en ed pos h k =
    let p : n * 10 ^ 12 / d ≡ claim.num * 10 ^ 12 / claim.den = λ i. en i * 10 ^ 12 / ed i in
    let iff = above_units method claim k pos in
    let from = from_least method (n * 10 ^ 12 / d) r h k in
    ((λ a. from.0 (let l = iff.0 a in omega (arith, l, p))), (λ le. iff.1 (let l = from.1 le in omega (arith, l, p))))

pub highest_is : (method : Divisor) (claim : Quotient) (n d r : ℕ) → n ≡ claim.num → d ≡ claim.den → 0 < claim.num → 0 < claim.den →
    IsUpTo (λ k. power_of method k ≤ (n * 10 ^ 12 - 1) / d) r → IsUpTo (IsUnitsBelow method claim) r
highest_is method claim n d r en ed px py h k =
    let p : (n * 10 ^ 12 - 1) / d ≡ (claim.num * 10 ^ 12 - 1) / claim.den = λ i. (en i * 10 ^ 12 - 1) / ed i in
    let iff = below_units method claim k px py in
    ((λ a. (h k).0 (let l = iff.0 a in omega (arith, l, p))), (λ le. iff.1 (let l = (h k).1 le in omega (arith, l, p))))

-- a part is no greater than the whole
pub div_le_self : (x y : ℕ) → 0 < y → x / y ≤ x
div_le_self x y pos =
    let iff : (x / y < x + 1) ↔ (x < (x + 1) * y) = div-lt_iff_lt-mul pos in
    let up = mul-le (x + 1) 1 (x + 1) y (omega arith) pos in
    let l = iff.1 (omega (arith, up)) in omega (arith, l)

-- a weight is no greater than its power
power_ge : (method : Divisor) (w : ℕ) → w ≤ power_of method w
power_ge Adams w = omega arith
power_ge Dean w = omega arith
power_ge Hill zero = omega arith
power_ge Hill (suc w) = omega arith
power_ge Webster w = omega arith
power_ge Jefferson w = omega arith

pub least_small : (method : Divisor) (p r : ℕ) → IsLeast (λ w. p < power_of method w) r → r ≤ p + 1
least_small method p r h = let ge = power_ge method (p + 1) in h.least (p + 1) (omega (arith, ge))

-- a ratio in parts of 10 ^ -12 has a whole part of at most 10 ^ 37
pub parts_small : (x y : ℕ) → x ≤ 10 ^ 25 → 0 < y → x * 10 ^ 12 / y ≤ 10 ^ 37
parts_small x y h pos = let le = div_le_self (x * 10 ^ 12) y pos in omega (arith, le)

pub parts_below_small : (x y : ℕ) → x ≤ 10 ^ 25 → 0 < y → (x * 10 ^ 12 - 1) / y ≤ 10 ^ 37
parts_below_small x y h pos = let le = div_le_self (x * 10 ^ 12 - 1) y pos in omega (arith, le)
