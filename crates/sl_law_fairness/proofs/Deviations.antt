-- The sum of the deviations is V² times that of the squares, and a number that the seats do not change.
use Rattle.std.proofs.Common.{◌≡◌, ℕ, zero, suc, ◌+◌, ◌-◌, ◌*◌, ◌<◌, ◌≤◌, List, [], ◌∷◌, length, get_or, sum, inl, inr, arith, refl, sym, subst, ◌∙◌}
use Rattle.std.proofs.Math.Nat.{mul-le-mul_left, mul-le-mul_right, le_of_mul-le-mul_left}
use Rattle.std.proofs.lemmas.Nat.{mul-lt}
use Rattle.std.proofs.lemmas.Bool.{cases_lt}
use Rattle.sl_base_quotients.specs.Quotient.{AtMost}
use Rattle.sl_law_meaning.proofs.methods.SeatSums.{sum-cons}
use Rattle.sl_law_fairness.specs.Hamilton.{apart}
use Rattle.sl_law_fairness.specs.Optimal.{IsGivenOut, deviations, WebsterLeastDeviations}
use Rattle.sl_law_fairness.proofs.Optimal.{squares, same_den, den_positive, webster_least_squares}

square_of : (p k a : ℕ) → a ≡ k → a * a + 2 * (p * (p + k)) ≡ p * p + (p + k) * (p + k)
square_of p k a e = subst (λ n. n * n + 2 * (p * (p + k)) ≡ p * p + (p + k) * (p + k)) (sym e) (omega arith)

-- the square of a difference
apart_square : (p q : ℕ) → apart p q * apart p q + 2 * (p * q) ≡ p * p + q * q
apart_square p q =
    elim (cases_lt q p) [
      | inr le ↦ (let e : p + (q - p) ≡ q = omega (arith, le) in subst (λ n. apart p n * apart p n + 2 * (p * n) ≡ p * p + n * n) e (square_of p (q - p) (apart p (p + (q - p))) (omega arith)))
      | inl less ↦
          (let e : q + (p - q) ≡ p = omega (arith, less) in
          let h = square_of q (p - q) (apart (q + (p - q)) q) (omega arith) in
          subst (λ n. apart n q * apart n q + 2 * (n * q) ≡ n * n + q * q) e (omega (arith, h)))
    ]

same_dens : (V S : ℕ) (v s : List ℕ) → (deviations V S v s).den ≡ (squares v s).den
same_dens V S [] s = refl
same_dens V S (x ∷ v) [] = refl
same_dens V S (zero ∷ v) (a ∷ s) = same_dens V S v s
same_dens V S (suc x ∷ v) (a ∷ s) = let e = same_dens V S v s in λ i. suc x * e i

abbrev Related : (V S D N M some all : ℕ) → Type 0
Related V S D N M some all = M + 2 * V * S * (D * some) ≡ V * V * N + S * S * (D * all)

related_step : (V S x a D N M A some all : ℕ) → A * A + 2 * (V * a * (S * x)) ≡ V * a * (V * a) + S * x * (S * x) → Related V S D N M some all →
    Related V S (x * D) (a * a * D + x * N) (A * A * D + x * M) (a + some) (x + all)
related_step V S x a D N M A some all e h =
    let one : D * (A * A + 2 * (V * a * (S * x))) ≡ D * (V * a * (V * a) + S * x * (S * x)) = λ i. D * e i in
    let two : x * (M + 2 * V * S * (D * some)) ≡ x * (V * V * N + S * S * (D * all)) = λ i. x * h i in
    omega (arith, one, two)

related : (V S : ℕ) (v s : List ℕ) → length s ≡ length v → ((i : ℕ) → get_or v i 0 ≡ 0 → get_or s i 0 ≡ 0) →
    Related V S (squares v s).den (squares v s).num (deviations V S v s).num (sum s) (sum v)
related V S [] [] l none = omega arith
related V S [] (a ∷ s) l none = absurd (omega (arith, l))
related V S (x ∷ v) [] l none = absurd (omega (arith, l))
related V S (zero ∷ v) (a ∷ s) l none =
    let rest = related V S v s (omega (arith, l)) (λ i. none (suc i)) in
    let z = none 0 refl in
    let es : sum (a ∷ s) ≡ sum s = omega (arith, sum-cons a s, z) in
    let ev : sum (zero ∷ v) ≡ sum v = omega (arith, sum-cons zero v) in
    subst (λ n. Related V S (squares v s).den (squares v s).num (deviations V S v s).num n (sum (zero ∷ v))) (sym es)
    (subst (λ n. Related V S (squares v s).den (squares v s).num (deviations V S v s).num (sum s) n) (sym ev) rest)
related V S (suc x ∷ v) (a ∷ s) l none =
    let rest = related V S v s (omega (arith, l)) (λ i. none (suc i)) in
    let D = (squares v s).den in
    let A = apart (V * a) (S * suc x) in
    let step = related_step V S (suc x) a D (squares v s).num (deviations V S v s).num A (sum s) (sum v) (apart_square (V * a) (S * suc x)) rest in
    let here = subst (λ n. Related V S (suc x * D) (a * a * D + suc x * (squares v s).num) (A * A * n + suc x * (deviations V S v s).num) (a + sum s) (suc x + sum v)) (sym (same_dens V S v s)) step in
    subst (λ n. Related V S (suc x * D) (a * a * D + suc x * (squares v s).num) (A * A * (deviations V S v s).den + suc x * (deviations V S v s).num) n (sum (suc x ∷ v))) (sym (sum-cons a s))
    (subst (λ n. Related V S (suc x * D) (a * a * D + suc x * (squares v s).num) (A * A * (deviations V S v s).den + suc x * (deviations V S v s).num) (a + sum s) n) (sym (sum-cons (suc x) v)) here)

-- without votes there are no squares
no_squares : (v s : List ℕ) → sum v ≡ 0 → (squares v s).num ≡ 0
no_squares [] s z = refl
no_squares (x ∷ v) [] z = refl
no_squares (zero ∷ v) (a ∷ s) z = no_squares v s (omega (arith, z, sum-cons zero v))
no_squares (suc x ∷ v) (a ∷ s) z = absurd (omega (arith, z, sum-cons (suc x) v))

-- of the same denominators
over_same : (n m d e : ℕ) → d ≡ e → 0 < d → n * e ≤ m * d → n ≤ m
over_same n m d e same pos h = le_of_mul-le-mul_left {m = n} {n = m} {k = d} (let h' = subst (λ k. n * k ≤ m * d) (sym same) h in omega (arith, h')) pos

under_same : (n m d e : ℕ) → d ≡ e → n ≤ m → n * e ≤ m * d
under_same n m d e same le = subst (λ k. n * k ≤ m * d) same (mul-le-mul_right d le)

module _ (v : List ℕ) (seats : ℕ) (s t : List ℕ) (hs : IsGivenOut v seats s) (ht : IsGivenOut v seats t) where
  dens : (squares v s).den ≡ (squares v t).den
  dens = same_den v s t hs.same_length ht.same_length

  dens' : (deviations (sum v) seats v s).den ≡ (deviations (sum v) seats v t).den
  dens' = same_dens (sum v) seats v s ∙ dens ∙ sym (same_dens (sum v) seats v t)

  -- what the two sums have beyond V² times the squares is the same
  both : (deviations (sum v) seats v s).num + sum v * sum v * (squares v t).num ≡ (deviations (sum v) seats v t).num + sum v * sum v * (squares v s).num
  both =
      let rs = related (sum v) seats v s hs.same_length hs.outside in
      let rt = related (sum v) seats v t ht.same_length ht.outside in
      let es : sum t ≡ sum s = (let a = hs.total in let b = ht.total in omega (arith, a, b)) in
      let rt' = subst (λ n. Related (sum v) seats (squares v t).den (squares v t).num (deviations (sum v) seats v t).num n (sum v)) es rt in
      let rt'' = subst (λ d. Related (sum v) seats d (squares v t).num (deviations (sum v) seats v t).num (sum s) (sum v)) (sym dens) rt' in
      omega (arith, rs, rt'')

  to : AtMost (squares v s) (squares v t) → AtMost (deviations (sum v) seats v s) (deviations (sum v) seats v t)
  to h =
      let le = over_same (squares v s).num (squares v t).num (squares v s).den (squares v t).den dens (den_positive v s) h in
      let up : sum v * sum v * (squares v s).num ≤ sum v * sum v * (squares v t).num = mul-le-mul_left (sum v * sum v) le in
      let b = both in
      under_same (deviations (sum v) seats v s).num (deviations (sum v) seats v t).num (deviations (sum v) seats v s).den (deviations (sum v) seats v t).den dens' (omega (arith, up, b))

  back : AtMost (deviations (sum v) seats v s) (deviations (sum v) seats v t) → AtMost (squares v s) (squares v t)
  back h =
      let pos : 0 < (deviations (sum v) seats v s).den = subst (λ d. 0 < d) (sym (same_dens (sum v) seats v s)) (den_positive v s) in
      let le = over_same (deviations (sum v) seats v s).num (deviations (sum v) seats v t).num (deviations (sum v) seats v s).den (deviations (sum v) seats v t).den dens' pos h in
      let b = both in
      let down : (squares v s).num ≤ (squares v t).num = elim (cases_lt 0 (sum v)) [
        | inl some ↦ le_of_mul-le-mul_left {m = (squares v s).num} {n = (squares v t).num} {k = sum v * sum v} (omega (arith, le, b)) (mul-lt 0 0 (sum v) (sum v) some some)
        | inr none ↦ (let z = no_squares v s (omega (arith, none)) in omega (arith, z))
      ] in
      under_same (squares v s).num (squares v t).num (squares v s).den (squares v t).den dens down

pub webster_least_deviations : WebsterLeastDeviations
webster_least_deviations v seats s =
    let law = webster_least_squares v seats s in (
      λ h. let g = law.0 h in (g.0, λ t ht. to v seats s t g.0 ht (g.1 t ht)),
      λ h. law.1 (h.0, λ t ht. back v seats s t h.0 ht (h.1 t ht)),
    )
