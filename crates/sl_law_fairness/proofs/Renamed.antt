-- Votes multiplied by a number, and entries in another order.
use Rattle.std.proofs.Common.{◌≡◌, ℕ, zero, suc, ◌-◌, ◌*◌, ◌<◌, ◌≤◌, List, length, get_or, map, sum, sum_by, inl, inr, arith, refl, sym, ap, subst, ◌∙◌}
use Rattle.std.specs.Prelude.{IsPermutation}
use Rattle.std.specs.List.{range_with_len}
use Rattle.std.proofs.Math.Nat.{mul-le-mul_left, le_of_mul-le-mul_left}
use Rattle.std.proofs.lemmas.Nat.{mul-lt}
use Rattle.std.proofs.lemmas.Bool.{cases_lt}
use Rattle.std.proofs.lemmas.List.{length-map, ext_get_or}
use Rattle.std.proofs.lemmas.List.FromFn.{length-map-range_with_len, get_or-map-range_with_len}
use Rattle.std.proofs.lemmas.List.Sums.{sum-map}
use Rattle.std.proofs.lemmas.List.Sorted.{sum_by-IsPermutation}
use Rattle.sl_base_quotients.specs.declared.method.Divisor.{Divisor}
use Rattle.sl_base_quotients.specs.declared.method.Divisor.TheVariants.{Adams, Dean, Hill, Webster, Jefferson}
use Rattle.sl_base_quotients.specs.Quotient.{AtMost, quotient}
use Rattle.sl_law_meaning.specs.methods.Field.{InField}
use Rattle.sl_law_meaning.specs.methods.Allocations.{IsDivisorAllocation}
use Rattle.sl_law_meaning.proofs.methods.HamiltonProofs.{at_map}
use Rattle.sl_law_fairness.specs.Parts.{part}
use Rattle.sl_law_fairness.specs.Principles.{Homogeneous, Anonymous}
use Rattle.sl_law_fairness.proofs.Parts.{coherent}

-- the factor of a quotient
abbrev scale : Divisor → ℕ → ℕ
scale Adams c = c
scale Dean c = c
scale Hill c = c * c
scale Webster c = c
scale Jefferson c = c

scale_positive : (method : Divisor) (c : ℕ) → 0 < c → 0 < scale method c
scale_positive Adams c pos = pos
scale_positive Dean c pos = pos
scale_positive Hill c pos = mul-lt 0 0 c c pos pos
scale_positive Webster c pos = pos
scale_positive Jefferson c pos = pos

scaled_num : (method : Divisor) (c v a : ℕ) → (quotient method (c * v) a).num ≡ scale method c * (quotient method v a).num
scaled_num Adams c v a = refl
scaled_num Dean c v a = omega arith
scaled_num Hill c v a = omega arith
scaled_num Webster c v a = omega arith
scaled_num Jefferson c v a = refl

scaled_den : (method : Divisor) (c v a : ℕ) → (quotient method (c * v) a).den ≡ (quotient method v a).den
scaled_den Adams c v a = refl
scaled_den Dean c v a = refl
scaled_den Hill c v a = refl
scaled_den Webster c v a = refl
scaled_den Jefferson c v a = refl

-- a comparison of two products by a common factor
by_factor : (k a b c d : ℕ) → a * b ≤ c * d → k * a * b ≤ k * c * d
by_factor k a b c d le = let up : k * (a * b) ≤ k * (c * d) = mul-le-mul_left k le in omega (arith, up)

of_factor : (k a b c d : ℕ) → 0 < k → k * a * b ≤ k * c * d → a * b ≤ c * d
of_factor k a b c d pos le = le_of_mul-le-mul_left {m = a * b} {n = c * d} {k = k} (omega (arith, le)) pos

scaled : (method : Divisor) (c x y a b : ℕ) → AtMost (quotient method x a) (quotient method y b) → AtMost (quotient method (c * x) a) (quotient method (c * y) b)
scaled method c x y a b le =
    let p = by_factor (scale method c) (quotient method x a).num (quotient method y b).den (quotient method y b).num (quotient method x a).den le in
    let e = scaled_num method c x a in
    let f = scaled_den method c y b in
    let g = scaled_num method c y b in
    let h = scaled_den method c x a in
    rw (e, f, g, h) p

unscaled : (method : Divisor) (c x y a b : ℕ) → 0 < c → AtMost (quotient method (c * x) a) (quotient method (c * y) b) → AtMost (quotient method x a) (quotient method y b)
unscaled method c x y a b pos le =
    let e = scaled_num method c x a in
    let f = scaled_den method c y b in
    let g = scaled_num method c y b in
    let h = scaled_den method c x a in
    let le' = rw (e, f, g, h) at le in
    of_factor (scale method c) (quotient method x a).num (quotient method y b).den (quotient method y b).num (quotient method x a).den (scale_positive method c pos) le'

pub homogeneous : Homogeneous
homogeneous method v m seats s c pos =
    let w = map (λ x. c * x) v in
    let at : (i : ℕ) → get_or w i 0 ≡ c * get_or v i 0 = at_map (λ x. c * x) (omega arith) v in
    let long = length-map v (λ x. c * x) in
    let up : (i : ℕ) → InField v i → InField w i = λ i f. let e = at i in let p = mul-lt 0 0 c (get_or v i 0) pos f in omega (arith, e, p) in
    let down : (i : ℕ) → InField w i → InField v i = λ i f.
    elim (cases_lt 0 (get_or v i 0)) [
      | inl l ↦ l
      | inr g ↦ absurd (let e = at i in let z = no_product c (get_or v i 0) g in omega (arith, e, z, f))
    ] in
    let none : (i : ℕ) → get_or v i 0 ≡ 0 → get_or w i 0 ≡ 0 = λ i z. let e = at i in let p = no_product c (get_or v i 0) (omega (arith, z)) in omega (arith, e, p) in
    let back : (i : ℕ) → get_or w i 0 ≡ 0 → get_or v i 0 ≡ 0 = λ i z.
    elim (cases_lt 0 (get_or v i 0)) [ inl l ↦ absurd (let f = up i l in omega (arith, f, z)) | inr g ↦ omega (arith, g) ] in (
      λ h. record {
        same_length = h.same_length ∙ sym long;
        total = h.total;
        minima = h.minima;
        outside = λ i z. h.outside i (back i z);
        min_max = λ i j fi fj less.
            let e = at i in
            let f = at j in
            rw (e, f) (scaled method c (get_or v j 0) (get_or v i 0) (get_or s j 0) (get_or s i 0 - 1) (h.min_max i j (down i fi) (down j fj) less));
      },
      λ h. record {
        same_length = h.same_length ∙ long;
        total = h.total;
        minima = h.minima;
        outside = λ i z. h.outside i (none i z);
        min_max = λ i j fi fj less.
            let e = at i in
            let f = at j in
            unscaled method c (get_or v j 0) (get_or v i 0) (get_or s j 0) (get_or s i 0 - 1) pos (rw (e, f) at (h.min_max i j (up i fi) (up j fj) less));
      },
    )
  where
    no_product : (c n : ℕ) → n ≤ 0 → c * n ≡ 0
    no_product c zero le = omega arith
    no_product c (suc n) le = absurd (omega (arith, le))

-- the entries in their order
in_order : (s : List ℕ) → part (range_with_len 0 (length s)) s ≡ s
in_order s =
    ext_get_or 0 (part (range_with_len 0 (length s)) s) s (length-map-range_with_len (λ i. get_or s i 0) 0 (length s))
    (λ i l. get_or-map-range_with_len (λ i. get_or s i 0) 0 (length s) i i 0 (omega (arith, l, length-map-range_with_len (λ i. get_or s i 0) 0 (length s))) (omega arith))

-- in another order they have the same sum
pub same_sum : (s order : List ℕ) (n : ℕ) → length s ≡ n → IsPermutation (range_with_len 0 n) order → sum (part order s) ≡ sum s
same_sum s order n long perm =
    let a : sum (part order s) ≡ sum_by (λ i. get_or s i 0) order = sum-map (λ i. get_or s i 0) order in
    let b = sum_by-IsPermutation (λ i. get_or s i 0) (range_with_len 0 n) order perm in
    let c : sum (part (range_with_len 0 (length s)) s) ≡ sum_by (λ i. get_or s i 0) (range_with_len 0 (length s)) = sum-map (λ i. get_or s i 0) (range_with_len 0 (length s)) in
    let d : sum_by (λ i. get_or s i 0) (range_with_len 0 n) ≡ sum_by (λ i. get_or s i 0) (range_with_len 0 (length s)) = ap (λ n. sum_by (λ i. get_or s i 0) (range_with_len 0 n)) (sym long) in
    let e = ap sum (in_order s) in
    omega (arith, a, b, c, d, e)

pub anonymous : Anonymous
anonymous method v m seats s h order perm =
    subst (λ n. IsDivisorAllocation method (part order v) (part order m) n (part order s)) (same_sum s order (length v) h.same_length perm ∙ h.total)
    (coherent method v m seats s h order)
