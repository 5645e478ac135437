-- Rounding by a divisor that stands between the bounds.
use Rattle.std.proofs.Common.{◌≡◌, ℕ, zero, suc, ◌+◌, ◌-◌, ◌*◌, ◌/◌, ◌<◌, ◌≤◌, List, get_or, inl, inr, arith, subst}
use Rattle.std.proofs.Math.Nat.{div-eq_of_lt-le, mul-le-mul_right}
use Rattle.std.proofs.lemmas.Bool.{cases_lt}
use Rattle.sl_base_quotients.specs.declared.method.Divisor.{Divisor}
use Rattle.sl_base_quotients.specs.declared.method.Divisor.TheVariants.{Adams, Webster, Jefferson}
use Rattle.sl_base_quotients.specs.Bounds.{HasWeight, last_quotient, next_quotient, Between}
use Rattle.sl_ratio.specs.Laws.{EveryDivisorBetween}
use Rattle.sl_base_quotients.specs.Quotient.{Quotient, Below, quotient}
use Rattle.sl_base_quotients.proofs.Order.{AtMost-Below, Below-AtMost}

rounded : (n d k : ℕ) → 0 < d → k * d ≤ n → n < (k + 1) * d → n / d ≡ k
rounded n d k pos low high = div-eq_of_lt-le d low high

up_to : (v s p r : ℕ) → 0 < p → v * r < p * s → (0 < s → p * (s - 1) < v * r) → (v * r + (p - 1)) / p ≡ s
up_to v zero p r pos below above = absurd (omega arith)
up_to v (suc s) p r pos below above =
    let above' : p * s < v * r = (let h = above (omega arith) in let e : suc s - 1 ≡ s = omega arith in rw e at h) in
    rounded (v * r + (p - 1)) p (suc s) pos (omega arith) (omega arith)

down_to : (v s p r : ℕ) → 0 < p → v * r < p * (s + 1) → (0 < s → p * (s - 1 + 1) < v * r) → v * r / p ≡ s
down_to v zero p r pos below above = rounded (v * r) p 0 pos (omega arith) (omega arith)
down_to v (suc s) p r pos below above =
    let above' : p * (s + 1) < v * r = (let h = above (omega arith) in let e : suc s - 1 ≡ s = omega arith in rw e at h) in
    rounded (v * r) p (suc s) pos (omega arith) (omega arith)

nearest_to : (v s p r : ℕ) → 0 < p → 2 * v * r < p * (2 * s + 1) → (0 < s → p * (2 * (s - 1) + 1) < 2 * v * r) → (2 * (v * r) + p) / (2 * p) ≡ s
nearest_to v zero p r pos below above = rounded (2 * (v * r) + p) (2 * p) 0 (omega arith) (omega arith) (omega arith)
nearest_to v (suc s) p r pos below above =
    let above' : p * (2 * s + 1) < 2 * v * r = (let h = above (omega arith) in let e : suc s - 1 ≡ s = omega arith in rw e at h) in
    rounded (2 * (v * r) + p) (2 * p) (suc s) (omega arith) (omega arith) (omega arith)

-- half of an odd number of dividers is not between
not_half : (v s p r n : ℕ) → 0 < p → 2 * v * r < p * (2 * s + 1) → (0 < s → p * (2 * (s - 1) + 1) < 2 * v * r) → 2 * (v * r) ≡ (2 * n + 1) * p → ⊥
not_half v zero p r n pos below above e =
    let least : 1 * p ≤ (2 * n + 1) * p = mul-le-mul_right p (omega arith) in omega arith
not_half v (suc s) p r n pos below above e =
    let above' : p * (2 * s + 1) < 2 * v * r = (let h = above (omega arith) in let e' : suc s - 1 ≡ s = omega arith in rw e' at h) in
    elim (cases_lt n (suc s)) [
      | inl l ↦ (let most : (2 * n + 1) * p ≤ (2 * s + 1) * p = mul-le-mul_right p (omega arith) in omega arith)
      | inr g ↦ (let least : (2 * suc s + 1) * p ≤ (2 * n + 1) * p = mul-le-mul_right p (omega arith) in omega arith)
    ]

-- a divisor between the bounds is above each next quotient and below that of each last seat
module _ (method : Divisor) (positive : (v a : ℕ) → 0 < v → 0 < (quotient method v a).num) (v s : List ℕ) (d : Quotient) (h : Between method v s d) where
  above : (i : ℕ) → HasWeight v i → Below (next_quotient method v s i) d
  above i f =
      AtMost-Below (next_quotient method v s i) (next_quotient method v s h.is_next.0) d (positive (get_or v i 0) (get_or s i 0) f)
      (h.is_next.1.holds.greatest i f) (subst (λ q. Below q d) h.is_next.2 h.above_next)

  below : (i : ℕ) → HasWeight v i → 0 < get_or s i 0 → Below d (last_quotient method v s i)
  below i f seated =
      Below-AtMost d (last_quotient method v s h.is_last.0) (last_quotient method v s i) (positive (get_or v i 0) (get_or s i 0 - 1) f)
      (subst (λ q. Below d q) h.is_last.2 h.below_last) (h.is_last.1.holds.least i f seated)

positive_adams : (v a : ℕ) → 0 < v → 0 < (quotient Adams v a).num
positive_adams v a f = f

positive_webster : (v a : ℕ) → 0 < v → 0 < (quotient Webster v a).num
positive_webster v a f = omega arith

positive_jefferson : (v a : ℕ) → 0 < v → 0 < (quotient Jefferson v a).num
positive_jefferson v a f = f

pub every_divisor_between : EveryDivisorBetween
every_divisor_between v s d pos = record {
  adams = λ h i f. up_to (get_or v i 0) (get_or s i 0) d.num d.den pos (above Adams positive_adams v s d h i f) (below Adams positive_adams v s d h i f);
  webster = λ h i f. nearest_to (get_or v i 0) (get_or s i 0) d.num d.den pos (above Webster positive_webster v s d h i f) (below Webster positive_webster v s d h i f);
  no_half = λ h i f n. not_half (get_or v i 0) (get_or s i 0) d.num d.den n pos (above Webster positive_webster v s d h i f) (below Webster positive_webster v s d h i f);
  jefferson = λ h i f. down_to (get_or v i 0) (get_or s i 0) d.num d.den pos (above Jefferson positive_jefferson v s d h i f) (below Jefferson positive_jefferson v s d h i f);
}
