-- Dean's and Hill's methods round at means of the numbers, harmonic and geometric ones.
use Rattle.std.proofs.Common.{◌≡◌, ℕ, zero, suc, ◌+◌, ◌-◌, ◌*◌, ◌<◌, ◌≤◌, [], ◌∷◌, get_or, inl, inr, arith, subst}
use Rattle.std.proofs.lemmas.Nat.{mul-lt}
use Rattle.sl_base_quotients.specs.declared.method.Divisor.{Divisor}
use Rattle.sl_base_quotients.specs.declared.method.Divisor.TheVariants.{Adams, Dean, Hill, Webster, Jefferson}
use Rattle.sl_base_quotients.specs.Quotient.{Quotient, AtMost, quotient}
use Rattle.sl_base_quotients.specs.inner.QuotientLaws.{quotient_positive}
use Rattle.sl_base_quotients.proofs.Order.{AtMost-trans, decide_AtMost, not-AtMost}
use Rattle.sl_law_fairness.specs.ByDivisor.{IsHarmonic, IsGeometric, DeanByDivisor, HillByDivisor, DivisorBetween}
use Rattle.sl_law_fairness.proofs.Chains.{falls_weak}
use Rattle.sl_law_fairness.proofs.ByDivisor.{IsRoundingOf, to_divisor, from_divisor}

-- a number is rounded to one that is not above m, where m is not too few: the greatest whose last claim is no less than the divisor
module _ (method : Divisor) (Rounded : Quotient → ℕ → ℕ → Type 0) (d : Quotient) (v : ℕ)
    (none : AtMost (quotient method v 0) d → Rounded d v 0)
    (exact : (k : ℕ) → AtMost (quotient method v (suc k)) d → AtMost d (quotient method v k) → Rounded d v (suc k)) where
  capped_at : (m : ℕ) → AtMost (quotient method v m) d → (r : ℕ) × Rounded d v r × (r ≤ m)
  capped_at zero up = (0, none up, omega arith)
  capped_at (suc m) up =
      elim (decide_AtMost d (quotient method v m)) [
        | inl down ↦ (suc m, exact m up down, omega arith)
        | inr not ↦ (let r = capped_at m (not-AtMost d (quotient method v m) not) in let le = r.2 in (r.0, r.1, omega (arith, le)))
      ]

-- more seats, no greater claim
no_greater : (method : Divisor) (d : Quotient) (v a b : ℕ) → 0 < v → a ≤ b → AtMost (quotient method v a) d → AtMost (quotient method v b) d
no_greater method d v a b pos le h =
    AtMost-trans (quotient method v b) (quotient method v a) d (quotient_positive method v a pos) (falls_weak method (v ∷ []) 0 a b pos le) h

-- the claim to one seat more than k
step : (P : ℕ → Type 0) (s : ℕ) → 0 < s → ((k : ℕ) → s ≡ suc k → P k) → P (s - 1)
step P zero pos h = absurd (omega (arith, pos))
step P (suc k) pos h = let e : k ≡ suc k - 1 = omega arith in let here = h k (omega arith) in subst P e here

-- ---- Dean

dean_none : (d : Quotient) (v : ℕ) → AtMost (quotient Dean v 0) d → IsHarmonic d v 0
dean_none d v up = record { not_above = omega arith; not_below = omega (arith, up) }

dean_low : (d : Quotient) (v k : ℕ) → AtMost d (quotient Dean v k) → 2 * ((suc k - 1) * suc k) * d.num ≤ (2 * suc k - 1) * (v * d.den)
dean_low d v k h =
    let e : k ≡ suc k - 1 = omega arith in
    let f : 2 * k + 1 ≡ 2 * suc k - 1 = omega arith in
    let one : 2 * (k * suc k) * d.num ≤ (2 * k + 1) * (v * d.den) = omega (arith, h) in
    subst (λ n. 2 * (n * suc k) * d.num ≤ (2 * suc k - 1) * (v * d.den)) e (subst (λ n. 2 * (k * suc k) * d.num ≤ n * (v * d.den)) f one)

dean_back : (d : Quotient) (v k : ℕ) → 2 * ((suc k - 1) * suc k) * d.num ≤ (2 * suc k - 1) * (v * d.den) → AtMost d (quotient Dean v k)
dean_back d v k h =
    let e : suc k - 1 ≡ k = omega arith in
    let f : 2 * suc k - 1 ≡ 2 * k + 1 = omega arith in
    let one = subst (λ n. 2 * (n * suc k) * d.num ≤ (2 * suc k - 1) * (v * d.den)) e h in
    let two = subst (λ n. 2 * (k * suc k) * d.num ≤ n * (v * d.den)) f one in
    omega (arith, two)

dean_rounded : (d : Quotient) (v k : ℕ) → AtMost (quotient Dean v (suc k)) d → AtMost d (quotient Dean v k) → IsHarmonic d v (suc k)
dean_rounded d v k up down = record { not_above = dean_low d v k down; not_below = omega (arith, up) }

dean_exact : (d : Quotient) (v s : ℕ) → 0 < s → AtMost (quotient Dean v s) d → AtMost d (quotient Dean v (s - 1)) → IsHarmonic d v s
dean_exact d v zero pos up down = absurd (omega (arith, pos))
dean_exact d v (suc k) pos up down =
    let e : suc k - 1 ≡ k = omega arith in dean_rounded d v k up (subst (λ n. AtMost d (quotient Dean v n)) e down)

dean_next : (d : Quotient) (v r s : ℕ) → IsHarmonic d v r → r ≤ s → AtMost (quotient Dean v s) d
dean_next d zero r s is le = omega arith
dean_next d (suc v) r s is le =
    let low = is.not_below in no_greater Dean d (suc v) r s (omega arith) le (omega (arith, low))

dean_last : (d : Quotient) (v s : ℕ) → 0 < s → IsHarmonic d v s → AtMost d (quotient Dean v (s - 1))
dean_last d v zero pos is = absurd (omega (arith, pos))
dean_last d v (suc k) pos is =
    let e : k ≡ suc k - 1 = omega arith in subst (λ n. AtMost d (quotient Dean v n)) e (dean_back d v k is.not_above)

dean_rounds : IsRoundingOf Dean IsHarmonic
dean_rounds = record {
  exact = dean_exact;
  capped = λ d v m pos den up. capped_at Dean IsHarmonic d v (dean_none d v) (dean_rounded d v) m up;
  next = dean_next;
  last = dean_last;
}

-- by a finite divisor each vote rounds to a seat
seated : (num den v r : ℕ) → 0 < den → 0 < v → v * den ≤ r * num → 0 < r
seated num den v zero pos f le = absurd (let some : 0 * 0 < v * den = mul-lt 0 0 v den f pos in omega (arith, some, le))
seated num den v (suc r) pos f le = omega arith

dean_seated : (d : Quotient) (v r : ℕ) → 0 < d.den → 0 < v → IsHarmonic d v r → 0 < r
dean_seated d v zero pos f is = let low = is.not_below in seated d.num d.den v 0 pos f (omega (arith, low))
dean_seated d v (suc r) pos f is = omega arith

-- without a seat the denominator is 0, and with one it is not
some_den : (s : ℕ) → 0 < s → 0 < s * (s + 1)
some_den zero pos = absurd (omega (arith, pos))
some_den (suc k) pos = omega arith

pub dean_by_divisor : DeanByDivisor
dean_by_divisor v m seats s = (
  λ h. to_divisor Dean IsHarmonic dean_rounds v m seats s h.0 (λ j f. let some = some_den (get_or s j 0) (h.1 j f) in omega (arith, some)),
  λ h. (
    from_divisor Dean IsHarmonic dean_rounds v m seats s h,
    λ i f.
        let r = h.rounded i f in
        let e = r.2 in
        let some = dean_seated h.divisor (get_or v i 0) r.0 h.positive.1 f r.1 in
        omega (arith, e, some),
  ),
)

-- ---- Hill

hill_none : (d : Quotient) (v : ℕ) → AtMost (quotient Hill v 0) d → IsGeometric d v 0
hill_none d v up = record { not_above = omega arith; not_below = omega (arith, up) }

hill_low : (d : Quotient) (v k : ℕ) → AtMost d (quotient Hill v k) → (suc k - 1) * suc k * d.num ≤ v * v * d.den
hill_low d v k h =
    let e : k ≡ suc k - 1 = omega arith in
    let one : k * suc k * d.num ≤ v * v * d.den = omega (arith, h) in
    subst (λ n. n * suc k * d.num ≤ v * v * d.den) e one

hill_back : (d : Quotient) (v k : ℕ) → (suc k - 1) * suc k * d.num ≤ v * v * d.den → AtMost d (quotient Hill v k)
hill_back d v k h =
    let e : suc k - 1 ≡ k = omega arith in
    let one = subst (λ n. n * suc k * d.num ≤ v * v * d.den) e h in
    omega (arith, one)

hill_rounded : (d : Quotient) (v k : ℕ) → AtMost (quotient Hill v (suc k)) d → AtMost d (quotient Hill v k) → IsGeometric d v (suc k)
hill_rounded d v k up down = record { not_above = hill_low d v k down; not_below = omega (arith, up) }

hill_exact : (d : Quotient) (v s : ℕ) → 0 < s → AtMost (quotient Hill v s) d → AtMost d (quotient Hill v (s - 1)) → IsGeometric d v s
hill_exact d v zero pos up down = absurd (omega (arith, pos))
hill_exact d v (suc k) pos up down =
    let e : suc k - 1 ≡ k = omega arith in hill_rounded d v k up (subst (λ n. AtMost d (quotient Hill v n)) e down)

hill_next : (d : Quotient) (v r s : ℕ) → IsGeometric d v r → r ≤ s → AtMost (quotient Hill v s) d
hill_next d zero r s is le = omega arith
hill_next d (suc v) r s is le =
    let low = is.not_below in no_greater Hill d (suc v) r s (omega arith) le (omega (arith, low))

hill_last : (d : Quotient) (v s : ℕ) → 0 < s → IsGeometric d v s → AtMost d (quotient Hill v (s - 1))
hill_last d v zero pos is = absurd (omega (arith, pos))
hill_last d v (suc k) pos is =
    let e : k ≡ suc k - 1 = omega arith in subst (λ n. AtMost d (quotient Hill v n)) e (hill_back d v k is.not_above)

hill_rounds : IsRoundingOf Hill IsGeometric
hill_rounds = record {
  exact = hill_exact;
  capped = λ d v m pos den up. capped_at Hill IsGeometric d v (hill_none d v) (hill_rounded d v) m up;
  next = hill_next;
  last = hill_last;
}

hill_seated : (d : Quotient) (v r : ℕ) → 0 < d.den → 0 < v → IsGeometric d v r → 0 < r
hill_seated d v zero pos f is =
    let low = is.not_below in
    let square : 0 * 0 < v * v = mul-lt 0 0 v v f f in
    seated d.num d.den (v * v) 0 pos (omega (arith, square)) (omega (arith, low))
hill_seated d v (suc r) pos f is = omega arith

pub hill_by_divisor : HillByDivisor
hill_by_divisor v m seats s = (
  λ h. to_divisor Hill IsGeometric hill_rounds v m seats s h.0 (λ j f. some_den (get_or s j 0) (h.1 j f)),
  λ h. (
    from_divisor Hill IsGeometric hill_rounds v m seats s h,
    λ i f.
        let r = h.rounded i f in
        let e = r.2 in
        let some = hill_seated h.divisor (get_or v i 0) r.0 h.positive.1 f r.1 in
        omega (arith, e, some),
  ),
)

-- ---- each method

pub divisor_between : DivisorBetween
divisor_between Adams v a = (omega arith, omega arith)
divisor_between Dean v a = (omega arith, omega arith)
divisor_between Hill v a = (omega arith, omega arith)
divisor_between Webster v a = (omega arith, omega arith)
divisor_between Jefferson v a = (omega arith, omega arith)
