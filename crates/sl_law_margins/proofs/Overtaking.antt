-- The least weight whose quotient is above a claim, by division, and by a root under Hill.
use Rattle.std.proofs.Common.{◌≡◌, ℕ, zero, suc, ◌+◌, ◌*◌, ◌/◌, ◌^◌, ◌<◌, ◌≤◌, Bool, false, inl, inr, arith, refl, sym, ap, ◌∙◌, subst}
use Rattle.std.specs.Prelude.{◌↔◌, IsTrue}
use Rattle.std.proofs.Math.Nat.{div-lt_iff_lt-mul, mul-le-mul_right, mul-le-mul_left}
use Rattle.std.proofs.lemmas.Nat.{mul-le}
use Rattle.std.proofs.lemmas.Bool.{cases_lt, true≢false}
use Rattle.sl_base_quotients.specs.inner.QuotientLaws.{quotient_positive}
use Rattle.sl_base_quotients.specs.declared.method.Divisor.{Divisor}
use Rattle.sl_base_quotients.specs.declared.method.Divisor.TheVariants.{Adams, Dean, Hill, Webster, Jefferson}
use Rattle.sl_base_quotients.specs.declared.limits.TheConstants.{MAX_WEIGHT, MAX_SEATS}
use Rattle.sl_base_quotients.specs.Quotient.{Quotient, quotient}
use Rattle.sl_law_margins.specs.inner.Needed.{power_of, IsLeast, IsAbove}

-- a quotient is a power of its weight over a number of the seats alone
pub quotient_num : (method : Divisor) (w a : ℕ) → (quotient method w a).num ≡ (quotient method 1 a).num * power_of method w
quotient_num Adams w a = omega arith
quotient_num Dean w a = omega arith
quotient_num Hill w a = omega arith
quotient_num Webster w a = omega arith
quotient_num Jefferson w a = omega arith

pub quotient_den : (method : Divisor) (w a : ℕ) → (quotient method w a).den ≡ (quotient method 1 a).den
quotient_den Adams w a = refl
quotient_den Dean w a = refl
quotient_den Hill w a = refl
quotient_den Webster w a = refl
quotient_den Jefferson w a = refl

pub product_pos : (a b : ℕ) → 0 < a → 0 < b → 0 < a * b
product_pos a b p q = mul-le 1 1 a b p q

-- x/y is below (c * p)/d where the whole part of x * d / (y * c) is below p
below_iff : (x y c d p : ℕ) → 0 < y → 0 < c → (x * d < (c * p) * y) ↔ (x * d / (y * c) < p)
below_iff x y c d p py pc =
    let pos : 0 < y * c = product_pos y c py pc in
    let iff : (x * d / (y * c) < p) ↔ (x * d < p * (y * c)) = div-lt_iff_lt-mul pos in
    ((λ h. iff.1 (omega arith)), (λ h. let l = iff.0 h in omega (arith, l)))

pub above_iff : (method : Divisor) (held w : ℕ) (claim : Quotient) → 0 < claim.den → 0 < (quotient method 1 held).num →
    IsAbove method held claim w ↔ (claim.num * (quotient method 1 held).den / (claim.den * (quotient method 1 held).num) < power_of method w)
above_iff method held w claim py pc =
    let en = quotient_num method w held in
    let ed = quotient_den method w held in
    rw (en, ed) (below_iff claim.num claim.den (quotient method 1 held).num (quotient method 1 held).den (power_of method w) py pc)

pub least_above : (method : Divisor) (held r : ℕ) (claim : Quotient) → 0 < claim.den → 0 < (quotient method 1 held).num →
    IsLeast (λ w. claim.num * (quotient method 1 held).den / (claim.den * (quotient method 1 held).num) < power_of method w) r →
    IsLeast (IsAbove method held claim) r
least_above method held r claim py pc h = record {
  holds = (above_iff method held r claim py pc).1 h.holds;
  least = λ w above. h.least w ((above_iff method held w claim py pc).0 above);
}

-- a weight that is always enough
abbrev pub enough : ℕ → ℕ → ℕ
enough weight held = 2 * (weight * (held + 1)) + 1

-- a product grows with each of its factors
bigger : (x c b : ℕ) → 0 < b → x < c → x < c * b
bigger x c b pos less = let up : c * 1 ≤ c * b = mul-le-mul_left c pos in omega (arith, up, less)

bigger_both : (w d c a b : ℕ) → 0 < b → a ≤ b → w * d < c → w * a * d < c * b
bigger_both w d c a b pos le less =
    let one : w * d * a ≤ w * d * b = mul-le-mul_left (w * d) le in
    let two : (w * d + 1) * b ≤ c * b = mul-le-mul_right b (omega (arith, less)) in
    omega (arith, one, two, pos)

dean_parts : (won : ℕ) → 0 < 2 * won * (won + 1) → 2 * won + 1 ≤ 2 * won * (won + 1)
dean_parts zero pos = absurd (omega arith)
dean_parts (suc k) pos = omega arith

pub is_enough : (method : Divisor) (weight won held : ℕ) → 0 < (quotient method weight won).den → IsAbove method held (quotient method weight won) (enough weight held)
is_enough Adams weight won held pos = bigger (weight * held) (enough weight held) won pos (omega arith)
is_enough Dean weight won held pos =
    bigger_both weight (2 * held * (held + 1)) (enough weight held * (2 * held + 1)) (2 * won + 1) (2 * won * (won + 1)) pos (dean_parts won pos) (omega arith)
is_enough Hill weight won held pos = bigger (weight * weight * (held * (held + 1))) (enough weight held * enough weight held) (won * (won + 1)) pos (omega arith)
is_enough Webster weight won held pos = bigger (2 * weight * (2 * held + 1)) (2 * enough weight held) (2 * won + 1) (omega arith) (omega arith)
is_enough Jefferson weight won held pos = bigger (weight * (held + 1)) (enough weight held) (won + 1) (omega arith) (omega arith)

-- and that is a number of 64 bits
pub enough_fits : (weight held : ℕ) → weight ≤ MAX_WEIGHT → held ≤ MAX_SEATS → enough weight held < 2 ^ 64
enough_fits weight held w h =
    let up : weight * (held + 1) ≤ MAX_WEIGHT * (MAX_SEATS + 1) = mul-le weight (held + 1) MAX_WEIGHT (MAX_SEATS + 1) w (omega arith) in omega (arith, up)

-- the parts of the two ratios as the code reads them
pub found_above : (method : Divisor) (weight won held r : ℕ) (claim unit : Quotient) (n d e m : ℕ) →
    claim ≡ quotient method weight won → unit ≡ quotient method 1 held → n ≡ claim.num → d ≡ unit.den → e ≡ claim.den → m ≡ unit.num → 0 < claim.den →
    IsLeast (λ w. n * d / (e * m) < power_of method w) r → IsLeast (IsAbove method held (quotient method weight won)) r
found_above method weight won held r claim unit n d e m ec eu en ed ee em pos h =
    let pn : n ≡ (quotient method weight won).num = en ∙ ap (λ (q : Quotient). q.num) ec in
    let pd : d ≡ (quotient method 1 held).den = ed ∙ ap (λ (q : Quotient). q.den) eu in
    let pe : e ≡ (quotient method weight won).den = ee ∙ ap (λ (q : Quotient). q.den) ec in
    let pm : m ≡ (quotient method 1 held).num = em ∙ ap (λ (q : Quotient). q.num) eu in
    let p : n * d / (e * m) ≡ (quotient method weight won).num * (quotient method 1 held).den / ((quotient method weight won).den * (quotient method 1 held).num) =
    λ i. pn i * pd i / (pe i * pm i) in
    least_above method held r (quotient method weight won) (omega (arith, pos, ee, pe)) (quotient_positive method 1 held (omega arith))
    (subst (λ (k : ℕ). IsLeast (λ w. k < power_of method w) r) p h)

-- and the weight found is a number of 64 bits
pub above_fits : (method : Divisor) (weight won held r : ℕ) → weight ≤ MAX_WEIGHT → held ≤ MAX_SEATS → 0 < (quotient method weight won).den →
    IsLeast (IsAbove method held (quotient method weight won)) r → r < 2 ^ 64
above_fits method weight won held r w h pos least =
    let le = least.least (enough weight held) (is_enough method weight won held pos) in
    let fits = enough_fits weight held w h in
    omega (arith, le, fits)

-- a test that a denominator is 0 was false
pub finite_by : (b : Bool) (d : ℕ) → b ≡ false → IsTrue b ↔ (d ≡ 0) → 0 < d
finite_by b d e iff =
    elim (cases_lt 0 d) [ inl l ↦ l | inr g ↦ (let t = iff.1 (omega arith) in absurd (true≢false (sym t ∙ e))) ]
