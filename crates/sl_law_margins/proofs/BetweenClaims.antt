-- Claims that are apart have a decimal number of twelve places between them.
use Rattle.std.proofs.Common.{ℕ, zero, suc, ◌+◌, ◌-◌, ◌*◌, ◌/◌, ◌^◌, ◌<◌, ◌≤◌, get_or, inl, inr, arith}
use Rattle.std.specs.Prelude.{◌↔◌}
use Rattle.std.proofs.Math.Nat.{div-mul-le_self, mul-le-mul_right, div-lt_iff_lt-mul}
use Rattle.std.proofs.lemmas.Nat.{mul-le}
use Rattle.std.proofs.lemmas.Bool.{cases_lt, false≢true}
use Rattle.sl_base_quotients.specs.declared.limits.TheConstants.{MAX_SEATS}
use Rattle.sl_base_quotients.specs.declared.method.Divisor.{Divisor}
use Rattle.sl_base_quotients.specs.declared.method.Divisor.TheVariants.{Adams, Dean, Hill, Webster, Jefferson}
use Rattle.sl_base_quotients.specs.Quotient.{Quotient, Below, quotient}
use Rattle.sl_base_quotients.specs.Bounds.{IsRounding, last_quotient, next_quotient}
use Rattle.sl_base_quotients.specs.inner.QuotientLaws.{quotient_positive}
use Rattle.sl_base_quotients.proofs.Order.{AtMost-Below, Below-AtMost}
use Rattle.sl_law_margins.specs.Divisors.{as_quotient}
use Rattle.sl_law_margins.specs.inner.Units.{units}
use Rattle.sl_law_margins.specs.Laws.{DivisorsBetween}

-- a method that rounds has small denominators, and compares divisors as they are
small_den : (method : Divisor) (v a : ℕ) → IsRounding method → a ≤ MAX_SEATS → (quotient method v a).den ≤ 8001
small_den Adams v a r h = omega arith
small_den Dean v a r h = absurd (false≢true r)
small_den Hill v a r h = absurd (false≢true r)
small_den Webster v a r h = omega arith
small_den Jefferson v a r h = omega arith

-- the next number after x in units is below y, where x and y are apart
just_above : (p q r s : ℕ) → 0 < p → q ≤ 8001 → 0 < s → s ≤ 8001 → r * q < p * s → (r * 10 ^ 12 / s + 1) * q < p * 10 ^ 12
just_above p q r s pos small some small' apart =
    let whole = div-mul-le_self (r * 10 ^ 12) s in
    let parts : q * s ≤ 8001 * 8001 = mul-le q s 8001 8001 small small' in
    let up : r * 10 ^ 12 / s * s * q ≤ r * 10 ^ 12 * q = mul-le-mul_right q whole in
    let more : (r * q + 1) * 10 ^ 12 ≤ p * s * 10 ^ 12 = mul-le-mul_right (10 ^ 12) (omega arith) in
    let all : (r * 10 ^ 12 / s + 1) * q * s < p * 10 ^ 12 * s = omega (arith, parts, up, more) in
    elim (cases_lt ((r * 10 ^ 12 / s + 1) * q) (p * 10 ^ 12)) [
      | inl l ↦ l
      | inr g ↦ absurd (let back : p * 10 ^ 12 * s ≤ (r * 10 ^ 12 / s + 1) * q * s = mul-le-mul_right s g in omega (arith, all, back))
    ]

den_pos : (a b c d : ℕ) → a * d < c * b → 0 < b
den_pos a zero c d h = absurd (omega arith)
den_pos a (suc b) c d h = omega arith

above_it : (r s : ℕ) → 0 < s → r * 10 ^ 12 < (r * 10 ^ 12 / s + 1) * s
above_it r s pos = let iff : (r * 10 ^ 12 / s < r * 10 ^ 12 / s + 1) ↔ (r * 10 ^ 12 < (r * 10 ^ 12 / s + 1) * s) = div-lt_iff_lt-mul pos in iff.0 (omega arith)

-- the units of a method that rounds
same_units : (method : Divisor) (n : ℕ) (x : Quotient) → IsRounding method → x.num * 10 ^ 12 < n * x.den → Below x (as_quotient method (units method n))
same_units Adams n x r h = h
same_units Dean n x r h = absurd (false≢true r)
same_units Hill n x r h = absurd (false≢true r)
same_units Webster n x r h = h
same_units Jefferson n x r h = h

units_same : (method : Divisor) (n : ℕ) (x : Quotient) → IsRounding method → n * x.den < x.num * 10 ^ 12 → Below (as_quotient method (units method n)) x
units_same Adams n x r h = h
units_same Dean n x r h = absurd (false≢true r)
units_same Hill n x r h = absurd (false≢true r)
units_same Webster n x r h = h
units_same Jefferson n x r h = h

pub divisors_between : DivisorsBetween
divisors_between method v s rounding within i j last next apart =
    let x = next_quotient method v s j in
    let y = last_quotient method v s i in
    let n = x.num * 10 ^ 12 / x.den + 1 in
    let some : 0 < x.den = den_pos x.num x.den y.num y.den apart in
    let py : 0 < y.num = quotient_positive method (get_or v i 0) (get_or s i 0 - 1) last.weight in
    let seats_i = within i in
    let small = small_den method (get_or v i 0) (get_or s i 0 - 1) rounding (omega arith) in
    let small' = small_den method (get_or v j 0) (get_or s j 0) rounding (within j) in
    let up = same_units method n x rounding (above_it x.num x.den some) in
    let down = units_same method n y rounding (just_above y.num y.den x.num x.den py small some small' apart) in (
      n,
      record {
        above_next = λ k f.
            AtMost-Below (next_quotient method v s k) x (as_quotient method (units method n)) (quotient_positive method (get_or v k 0) (get_or s k 0) f) (next.greatest k f) up;
        below_last = λ k f a.
            Below-AtMost (as_quotient method (units method n)) y (last_quotient method v s k) (quotient_positive method (get_or v k 0) (get_or s k 0 - 1) f) down (last.least k f a);
      },
    )
