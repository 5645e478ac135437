-- Jefferson's and Adams's dearest and cheapest entries, and Webster's squares.
use Rattle.std.proofs.Common.{◌≡◌, ◌↔◌, ◌≢◌, ℕ, zero, suc, ◌+◌, ◌-◌, ◌*◌, ◌<◌, ◌≤◌, List, [], ◌∷◌, length, get_or, sum, inl, inr, arith, refl, sym, subst}
use Rattle.std.proofs.Math.Nat.{mul-le-mul_left, mul-le-mul_right, le_of_mul-le-mul_left, mul-lt-mul_of_pos_right}
use Rattle.std.proofs.lemmas.Nat.{mul-lt}
use Rattle.std.proofs.lemmas.Bool.{cases_lt, cases_eq}
use Rattle.sl_base_quotients.specs.declared.method.Divisor.{Divisor}
use Rattle.sl_base_quotients.specs.declared.method.Divisor.TheVariants.{Adams, Webster}
use Rattle.sl_base_quotients.specs.Quotient.{Quotient, AtMost, quotient}
use Rattle.sl_base_quotients.proofs.Order.{decide_AtMost}
use Rattle.sl_law_meaning.specs.methods.Field.{InField, no_minima}
use Rattle.sl_law_meaning.specs.methods.Allocations.{IsDivisorAllocation}
use Rattle.sl_law_meaning.proofs.methods.SeatSums.{none_needed, some_greater, sum-cons}
use Rattle.sl_law_meaning.proofs.methods.DivisorProofs.{in_range}
use Rattle.sl_law_fairness.specs.Optimal.{IsGivenOut, JeffersonLeastMost, AdamsMostLeast}
use Rattle.sl_law_fairness.proofs.Chains.{falls_weak}
use Rattle.sl_law_fairness.proofs.ByDivisor.{some_divisor}
use Rattle.sl_law_fairness.proofs.Moves.{IsMoved, moved}

-- x and the square of s over v, if v is not 0
abbrev pub and_square : ℕ → ℕ → Quotient → Quotient
and_square zero s x = x
and_square (suc v) s x = record { num = s * s * x.den + suc v * x.num; den = suc v * x.den }

-- the sum of s² / v over the field. Of lists s that distribute so many seats S it is least where the sum of v (s / v - S / V)² is, the squares of
-- what the seats for each vote deviate from the seats for a vote on average
abbrev pub squares : List ℕ → List ℕ → Quotient
squares [] s = record { num = 0; den = 1 }
squares (x ∷ v) [] = record { num = 0; den = 1 }
squares (x ∷ v) (a ∷ s) = and_square x a (squares v s)

-- the allocations by Webster's method are the lists with the least sum
abbrev pub WebsterLeastSquares : Type 0
WebsterLeastSquares =
    (v : List ℕ) (seats : ℕ) (s : List ℕ) →
    IsDivisorAllocation Webster v (no_minima v) seats s ↔ (IsGivenOut v seats s × ((t : List ℕ) → IsGivenOut v seats t → AtMost (squares v s) (squares v t)))

-- who has a seat has votes
has_votes : (v : List ℕ) (seats : ℕ) (t : List ℕ) → IsGivenOut v seats t → (j : ℕ) → 0 < get_or t j 0 → InField v j
has_votes v seats t h j some =
    elim (cases_lt 0 (get_or v j 0)) [
      | inl f ↦ f
      | inr g ↦ absurd (let o = h.outside j (omega (arith, g)) in omega (arith, o, some))
    ]

given_out : (v : List ℕ) (seats : ℕ) (method : Divisor) (s : List ℕ) → IsDivisorAllocation method v (no_minima v) seats s → IsGivenOut v seats s
given_out v seats method s h = record {
  same_length = h.same_length;
  total = h.total;
  outside = λ i none. let o = h.outside i none in let z = none_needed (length v) i in omega (arith, o, z);
}

pub jefferson_least_most : JeffersonLeastMost
jefferson_least_most v seats s h t k i fi =
    elim (cases_lt (get_or t i 0) (get_or s i 0)) [
      | inr g ↦ (i, fi, mul-le-mul_right (get_or v i 0) g)
      | inl less ↦
          (let more = some_greater s t i (let a = h.total in let b = k.total in omega (arith, a, b)) less in
          let j = more.0 in
          let up = more.1 in
          let fj = has_votes v seats t k j (omega (arith, up)) in
          let z = none_needed (length v) i in
          let one : get_or s i 0 - 1 + 1 ≡ get_or s i 0 = omega (arith, less) in
          let fair : get_or v j 0 * get_or s i 0 ≤ get_or v i 0 * (get_or s j 0 + 1) =
          subst (λ n. get_or v j 0 * n ≤ get_or v i 0 * (get_or s j 0 + 1)) one (h.min_max i j fi fj (omega (arith, z, less))) in
          let top : get_or v i 0 * (get_or s j 0 + 1) ≤ get_or v i 0 * get_or t j 0 = mul-le-mul_left (get_or v i 0) (omega (arith, up)) in
          (j, fj, omega (arith, fair, top)))
    ]

pub adams_most_least : AdamsMostLeast
adams_most_least v seats s h t k i fi =
    elim (cases_lt (get_or s i 0) (get_or t i 0)) [
      | inr g ↦ (i, fi, mul-le-mul_right (get_or v i 0) g)
      | inl less ↦
          (let more = some_greater t s i (let a = h.total in let b = k.total in omega (arith, a, b)) less in
          let j = more.0 in
          let up = more.1 in
          let fj = has_votes v seats s (given_out v seats Adams s h) j (omega (arith, up)) in
          let z = none_needed (length v) j in
          let fair : get_or v i 0 * (get_or s j 0 - 1) ≤ get_or v j 0 * get_or s i 0 = h.min_max j i fj fi (omega (arith, z, up)) in
          let top : get_or v i 0 * get_or t j 0 ≤ get_or v i 0 * (get_or s j 0 - 1) = mul-le-mul_left (get_or v i 0) (omega (arith, up)) in
          (j, fj, omega (arith, fair, top)))
    ]

-- ---- squares

-- the denominator does not know the seats
pub same_den : (v s t : List ℕ) → length s ≡ length v → length t ≡ length v → (squares v s).den ≡ (squares v t).den
same_den [] s t ls lt = refl
same_den (x ∷ v) [] t ls lt = absurd (omega (arith, ls))
same_den (x ∷ v) (a ∷ s) [] ls lt = absurd (omega (arith, lt))
same_den (zero ∷ v) (a ∷ s) (b ∷ t) ls lt = same_den v s t (omega (arith, ls)) (omega (arith, lt))
same_den (suc x ∷ v) (a ∷ s) (b ∷ t) ls lt = let e = same_den v s t (omega (arith, ls)) (omega (arith, lt)) in λ i. suc x * e i

pub den_positive : (v s : List ℕ) → 0 < (squares v s).den
den_positive [] s = omega arith
den_positive (x ∷ v) [] = omega arith
den_positive (zero ∷ v) (a ∷ s) = den_positive v s
den_positive (suc x ∷ v) (a ∷ s) = mul-lt 0 0 (suc x) (squares v s).den (omega arith) (den_positive v s)

-- by a divisor p / q the square of s is less than that of t by no less than what p / q says of t - s
abbrev Fits : (p q v s t : ℕ) → Type 0
Fits p q v s t = p * (s * s) + 2 * q * (t * v) ≤ p * (t * t) + 2 * q * (s * v)

abbrev Gains : (p q v s t : ℕ) → Type 0
Gains p q v s t = p * (s * s) + 2 * q * (t * v) < p * (t * t) + 2 * q * (s * v)

-- the same of sums: of numerators n and m over d
abbrev Summed : (p q d n m all sum : ℕ) → Type 0
Summed p q d n m all more = p * n + 2 * q * (d * more) ≤ p * m + 2 * q * (d * all)

abbrev Gained : (p q d n m all sum : ℕ) → Type 0
Gained p q d n m all more = p * n + 2 * q * (d * more) < p * m + 2 * q * (d * all)

add : (p q x a b d n m all more : ℕ) → Fits p q x a b → Summed p q d n m all more → Summed p q (x * d) (a * a * d + x * n) (b * b * d + x * m) (a + all) (b + more)
add p q x a b d n m all more h k =
    let one : d * (p * (a * a) + 2 * q * (b * x)) ≤ d * (p * (b * b) + 2 * q * (a * x)) = mul-le-mul_left d h in
    let two : x * (p * n + 2 * q * (d * more)) ≤ x * (p * m + 2 * q * (d * all)) = mul-le-mul_left x k in
    omega (arith, one, two)

add_first : (p q x a b d n m all more : ℕ) → 0 < d → Gains p q x a b → Summed p q d n m all more → Gained p q (x * d) (a * a * d + x * n) (b * b * d + x * m) (a + all) (b + more)
add_first p q x a b d n m all more pd h k =
    let one : (p * (a * a) + 2 * q * (b * x)) * d < (p * (b * b) + 2 * q * (a * x)) * d = mul-lt-mul_of_pos_right h pd in
    let two : x * (p * n + 2 * q * (d * more)) ≤ x * (p * m + 2 * q * (d * all)) = mul-le-mul_left x k in
    omega (arith, one, two)

add_later : (p q x a b d n m all more : ℕ) → 0 < x → Fits p q x a b → Gained p q d n m all more → Gained p q (x * d) (a * a * d + x * n) (b * b * d + x * m) (a + all) (b + more)
add_later p q x a b d n m all more px h k =
    let one : d * (p * (a * a) + 2 * q * (b * x)) ≤ d * (p * (b * b) + 2 * q * (a * x)) = mul-le-mul_left d h in
    let two : (p * n + 2 * q * (d * more)) * x < (p * m + 2 * q * (d * all)) * x = mul-lt-mul_of_pos_right k px in
    omega (arith, one, two)

-- of two lists
abbrev Bound : (p q : ℕ) (v s t : List ℕ) → Type 0
Bound p q v s t = Summed p q (squares v s).den (squares v s).num (squares v t).num (sum s) (sum t)

abbrev Strictly : (p q : ℕ) (v s t : List ℕ) → Type 0
Strictly p q v s t = Gained p q (squares v s).den (squares v s).num (squares v t).num (sum s) (sum t)

record Fit (p q : ℕ) (v s t : List ℕ) : Type 0 where
  pub long : length s ≡ length v
  pub too : length t ≡ length v
  pub none : (i : ℕ) → get_or v i 0 ≡ 0 → (get_or s i 0 ≡ 0) × (get_or t i 0 ≡ 0)
  pub each : (i : ℕ) → Fits p q (get_or v i 0) (get_or s i 0) (get_or t i 0)

rest : (p q x a b : ℕ) (v s t : List ℕ) → Fit p q (x ∷ v) (a ∷ s) (b ∷ t) → Fit p q v s t
rest p q x a b v s t h = record {
  long = let e = h.long in omega (arith, e);
  too = let e = h.too in omega (arith, e);
  none = λ i z. h.none (suc i) z;
  each = λ i. h.each (suc i);
}

-- with the heads
with_heads : (P : ℕ → ℕ → Type 0) (a b : ℕ) (s t : List ℕ) → P (a + sum s) (b + sum t) → P (sum (a ∷ s)) (sum (b ∷ t))
with_heads P a b s t h = subst (λ n. P n (sum (b ∷ t))) (sym (sum-cons a s)) (subst (λ n. P (a + sum s) n) (sym (sum-cons b t)) h)

without : (P : ℕ → ℕ → Type 0) (a b x y : ℕ) → a ≡ 0 → b ≡ 0 → P x y → P (a + x) (b + y)
without P a b x y ea eb h = subst (λ n. P n (b + y)) (let e : x ≡ a + x = omega (arith, ea) in e) (subst (λ n. P x n) (let e : y ≡ b + y = omega (arith, eb) in e) h)

bound : (p q : ℕ) (v s t : List ℕ) → Fit p q v s t → Bound p q v s t
bound p q [] [] [] h = omega arith
bound p q [] (a ∷ s) t h = absurd (let e = h.long in omega (arith, e))
bound p q [] [] (b ∷ t) h = absurd (let e = h.too in omega (arith, e))
bound p q (x ∷ v) [] t h = absurd (let e = h.long in omega (arith, e))
bound p q (x ∷ v) (a ∷ s) [] h = absurd (let e = h.too in omega (arith, e))
bound p q (zero ∷ v) (a ∷ s) (b ∷ t) h =
    let o = h.none 0 refl in
    with_heads (λ m n. Summed p q (squares v s).den (squares v s).num (squares v t).num m n) a b s t
    (without (λ m n. Summed p q (squares v s).den (squares v s).num (squares v t).num m n) a b (sum s) (sum t) o.0 o.1 (bound p q v s t (rest p q zero a b v s t h)))
bound p q (suc x ∷ v) (a ∷ s) (b ∷ t) h =
    let r = rest p q (suc x) a b v s t h in
    let d = (squares v s).den in
    let dt : d ≡ (squares v t).den = same_den v s t r.long r.too in
    with_heads (λ m n. Summed p q (suc x * d) (a * a * d + suc x * (squares v s).num) (b * b * (squares v t).den + suc x * (squares v t).num) m n) a b s t
    (subst (λ k. Summed p q (suc x * d) (a * a * d + suc x * (squares v s).num) (b * b * k + suc x * (squares v t).num) (a + sum s) (b + sum t)) dt
    (add p q (suc x) a b d (squares v s).num (squares v t).num (sum s) (sum t) (h.each 0) (bound p q v s t r)))

strictly : (p q : ℕ) (v s t : List ℕ) (i : ℕ) → Fit p q v s t → 0 < get_or v i 0 → Gains p q (get_or v i 0) (get_or s i 0) (get_or t i 0) → Strictly p q v s t
strictly p q [] s t i h f g = absurd (omega (arith, f))
strictly p q (x ∷ v) [] t i h f g = absurd (let e = h.long in omega (arith, e))
strictly p q (x ∷ v) (a ∷ s) [] i h f g = absurd (let e = h.too in omega (arith, e))
strictly p q (zero ∷ v) (a ∷ s) (b ∷ t) zero h f g = absurd (omega (arith, f))
strictly p q (zero ∷ v) (a ∷ s) (b ∷ t) (suc i) h f g =
    let o = h.none 0 refl in
    with_heads (λ m n. Gained p q (squares v s).den (squares v s).num (squares v t).num m n) a b s t
    (without (λ m n. Gained p q (squares v s).den (squares v s).num (squares v t).num m n) a b (sum s) (sum t) o.0 o.1 (strictly p q v s t i (rest p q zero a b v s t h) f g))
strictly p q (suc x ∷ v) (a ∷ s) (b ∷ t) zero h f g =
    let r = rest p q (suc x) a b v s t h in
    let d = (squares v s).den in
    let dt : d ≡ (squares v t).den = same_den v s t r.long r.too in
    with_heads (λ m n. Gained p q (suc x * d) (a * a * d + suc x * (squares v s).num) (b * b * (squares v t).den + suc x * (squares v t).num) m n) a b s t
    (subst (λ k. Gained p q (suc x * d) (a * a * d + suc x * (squares v s).num) (b * b * k + suc x * (squares v t).num) (a + sum s) (b + sum t)) dt
    (add_first p q (suc x) a b d (squares v s).num (squares v t).num (sum s) (sum t) (den_positive v s) g (bound p q v s t r)))
strictly p q (suc x ∷ v) (a ∷ s) (b ∷ t) (suc i) h f g =
    let r = rest p q (suc x) a b v s t h in
    let d = (squares v s).den in
    let dt : d ≡ (squares v t).den = same_den v s t r.long r.too in
    with_heads (λ m n. Gained p q (suc x * d) (a * a * d + suc x * (squares v s).num) (b * b * (squares v t).den + suc x * (squares v t).num) m n) a b s t
    (subst (λ k. Gained p q (suc x * d) (a * a * d + suc x * (squares v s).num) (b * b * k + suc x * (squares v t).num) (a + sum s) (b + sum t)) dt
    (add_later p q (suc x) a b d (squares v s).num (squares v t).num (sum s) (sum t) (omega arith) (h.each 0) (strictly p q v s t i r f g)))

-- ---- an allocation has the least

square_up : (k : ℕ) → k ≤ k * k
square_up zero = omega arith
square_up (suc k) = omega arith

fits_up : (p q v s k : ℕ) → 2 * v * q ≤ p * (2 * s + 1) → Fits p q v s (s + k)
fits_up p q v s k h =
    let up : k * (2 * v * q) ≤ k * (p * (2 * s + 1)) = mul-le-mul_left k h in
    let sq : p * k ≤ p * (k * k) = mul-le-mul_left p (square_up k) in
    omega (arith, up, sq)

fits_down : (p q v t k : ℕ) → p * (2 * (t + k)) ≤ 2 * v * q + p → Fits p q v (t + k) t
fits_down p q v t k h =
    let up : k * (p * (2 * (t + k))) ≤ k * (2 * v * q + p) = mul-le-mul_left k h in
    let sq : p * k ≤ p * (k * k) = mul-le-mul_left p (square_up k) in
    omega (arith, up, sq)

last_says : (d : Quotient) (v s : ℕ) → 0 < s → AtMost d (quotient Webster v (s - 1)) → d.num * (2 * s) ≤ 2 * v * d.den + d.num
last_says d v zero some h = absurd (omega (arith, some))
last_says d v (suc s) some h =
    let e : suc s - 1 ≡ s = omega arith in
    let h' : d.num * (2 * s + 1) ≤ 2 * v * d.den = subst (λ n. d.num * (2 * n + 1) ≤ 2 * v * d.den) e h in
    omega (arith, h')

fits : (d : Quotient) (v s t : ℕ) → AtMost (quotient Webster v s) d → (0 < s → AtMost d (quotient Webster v (s - 1))) → Fits d.num d.den v s t
fits d v s t up down =
    elim (cases_lt t s) [
      | inr le ↦ (let e : s + (t - s) ≡ t = omega (arith, le) in subst (λ n. Fits d.num d.den v s n) e (fits_up d.num d.den v s (t - s) (omega (arith, up))))
      | inl less ↦
          (let e : t + (s - t) ≡ s = omega (arith, less) in
          let last = last_says d v s (omega (arith, less)) (down (omega (arith, less))) in
          subst (λ n. Fits d.num d.den v n t) e (fits_down d.num d.den v t (s - t) (subst (λ n. d.num * (2 * n) ≤ 2 * v * d.den + d.num) (sym e) last)))
    ]

fits_none : (p q v s t : ℕ) → s ≡ 0 → t ≡ 0 → Fits p q v s t
fits_none p q v s t es et =
    subst (λ n. Fits p q v n t) (sym es) (subst (λ n. Fits p q v 0 n) (sym et) (omega arith))

-- the same sums and denominators leave the numerators
num_at_most : (p q d n m all : ℕ) → 0 < p → Summed p q d n m all all → n ≤ m
num_at_most p q d n m all pos h = le_of_mul-le-mul_left {m = n} {n = m} {k = p} (omega (arith, h)) pos

least : (v : List ℕ) (seats : ℕ) (s : List ℕ) → IsDivisorAllocation Webster v (no_minima v) seats s → (t : List ℕ) → IsGivenOut v seats t → AtMost (squares v s) (squares v t)
least v seats s h t k =
    let given = given_out v seats Webster s h in
    let found = some_divisor Webster v (no_minima v) seats s h (λ d. 0 < d.num) (omega arith) (λ j f. omega (arith, f)) in
    let d = found.0 in
    let div = found.2 in
    let fit : Fit d.num d.den v s t = record {
      long = h.same_length;
      too = k.same_length;
      none = λ i z. (given.outside i z, k.outside i z);
      each = λ i. elim (cases_lt 0 (get_or v i 0)) [
        | inr g ↦ (let z : get_or v i 0 ≡ 0 = omega (arith, g) in fits_none d.num d.den (get_or v i 0) (get_or s i 0) (get_or t i 0) (given.outside i z) (k.outside i z))
        | inl f ↦ (let z = none_needed (length v) i in fits d (get_or v i 0) (get_or s i 0) (get_or t i 0) (div.above_next i f) (λ some. div.below_last i f (omega (arith, z, some))))
      ];
    } in
    let sums : sum t ≡ sum s = (let a = h.total in let b = k.total in omega (arith, a, b)) in
    let all : Summed d.num d.den (squares v s).den (squares v s).num (squares v t).num (sum s) (sum s) =
    subst (λ n. Summed d.num d.den (squares v s).den (squares v s).num (squares v t).num (sum s) n) sums (bound d.num d.den v s t fit) in
    let le : (squares v s).num ≤ (squares v t).num = num_at_most d.num d.den (squares v s).den (squares v s).num (squares v t).num (sum s) found.1 all in
    subst (λ n. (squares v s).num * n ≤ (squares v t).num * (squares v s).den) (same_den v s t h.same_length k.same_length) (mul-le-mul_right (squares v s).den le)

-- ---- and what has the least is one

-- where the claim of j is above the last of i, the seat moved there makes it less
module _ (v : List ℕ) (seats : ℕ) (s : List ℕ) (h : IsGivenOut v seats s) (low : (t : List ℕ) → IsGivenOut v seats t → AtMost (squares v s) (squares v t))
    (i j : ℕ) (ne : i ≢ j) (fi : InField v i) (fj : InField v j) (some : 0 < get_or s i 0) (above : AtMost (quotient Webster (get_or v j 0) (get_or s j 0)) (quotient Webster (get_or v i 0) (get_or s i 0 - 1)) → ⊥) where
  no_move : (t : List ℕ) → IsMoved s t i j → get_or t i 0 ≡ get_or s i 0 - 1 → get_or t j 0 ≡ get_or s j 0 + 1 → ⊥
  no_move t mv ti tj =
      let p : ℕ = 2 * get_or v j 0 in
      let q : ℕ = 2 * get_or s j 0 + 1 in
      let a : ℕ = get_or s i 0 - 1 in
      let ea : a + 1 ≡ get_or s i 0 = omega (arith, some) in
      let other : (k : ℕ) → k ≢ i → k ≢ j → get_or t k 0 ≡ get_or s k 0 = mv.others in
      let given : IsGivenOut v seats t = record {
        same_length = (let e = mv.same_length in let l = h.same_length in omega (arith, e, l));
        total = (let e = mv.same_sum in let l = h.total in omega (arith, e, l));
        outside = λ k z. (
            let ni : k ≢ i = λ e. let f = subst (λ n. 0 < get_or v n 0) (sym e) fi in omega (arith, f, z) in
            let nj : k ≢ j = λ e. let f = subst (λ n. 0 < get_or v n 0) (sym e) fj in omega (arith, f, z) in
            let o = other k ni nj in let l = h.outside k z in omega (arith, o, l));
      } in
      let gain' : Gains p q (get_or v i 0) a (a + 1) = omega (arith, above) in
      let gain : Gains p q (get_or v i 0) (get_or t i 0) (get_or s i 0) =
      subst (λ n. Gains p q (get_or v i 0) n (get_or s i 0)) (sym ti) (subst (λ n. Gains p q (get_or v i 0) a n) ea gain') in
      let taker' : Fits p q (get_or v j 0) (get_or s j 0 + 1) (get_or s j 0) = omega arith in
      let taker : Fits p q (get_or v j 0) (get_or t j 0) (get_or s j 0) = subst (λ n. Fits p q (get_or v j 0) n (get_or s j 0)) (sym tj) taker' in
      let fit : Fit p q v t s = record {
        long = given.same_length;
        too = h.same_length;
        none = λ k z. (given.outside k z, h.outside k z);
        each = λ k. elim (cases_eq i k) [
          | inl e ↦ subst (λ n. Fits p q (get_or v n 0) (get_or t n 0) (get_or s n 0)) e (omega (arith, gain))
          | inr ni ↦ elim (cases_eq j k) [
            | inl e ↦ subst (λ n. Fits p q (get_or v n 0) (get_or t n 0) (get_or s n 0)) e taker
            | inr nj ↦ (let o = other k (λ e. ni (sym e)) (λ e. nj (sym e)) in subst (λ n. Fits p q (get_or v k 0) n (get_or s k 0)) (sym o) (omega arith))
          ]
        ];
      } in
      let sums : sum s ≡ sum t = (let e = mv.same_sum in omega (arith, e)) in
      let strict : Gained p q (squares v t).den (squares v t).num (squares v s).num (sum t) (sum t) =
      subst (λ n. Gained p q (squares v t).den (squares v t).num (squares v s).num (sum t) n) sums (strictly p q v t s i fit fi gain) in
      let lows : (squares v s).num * (squares v t).den ≤ (squares v t).num * (squares v t).den =
      subst (λ n. (squares v s).num * (squares v t).den ≤ (squares v t).num * n) (same_den v s t h.same_length given.same_length) (low t given) in
      let le : (squares v s).num ≤ (squares v t).num =
      le_of_mul-le-mul_left {m = (squares v s).num} {n = (squares v t).num} {k = (squares v t).den} (omega (arith, lows)) (den_positive v t) in
      let up : p * (squares v s).num ≤ p * (squares v t).num = mul-le-mul_left p le in
      omega (arith, strict, up)

  impossible : ⊥
  impossible =
      let li = in_range v i fi in
      let lj = in_range v j fj in
      let l = h.same_length in
      let m = moved s i j (get_or s i 0 - 1) (get_or s j 0 + 1) ne (omega (arith, li, l)) (omega (arith, lj, l)) (omega (arith, some)) in
      no_move m.0 m.1 m.2 m.3

pub webster_least_squares : WebsterLeastSquares
webster_least_squares v seats s = (
  λ h. (given_out v seats Webster s h, least v seats s h),
  λ h. record {
    same_length = h.0.same_length;
    total = h.0.total;
    minima = λ i. let z = none_needed (length v) i in omega (arith, z);
    outside = λ i none. let z = none_needed (length v) i in let o = h.0.outside i none in omega (arith, z, o);
    min_max = λ i j fi fj less.
        let some : 0 < get_or s i 0 = omega (arith, less) in
        elim (cases_eq i j) [
          | inl e ↦ subst (λ k. AtMost (quotient Webster (get_or v k 0) (get_or s k 0)) (quotient Webster (get_or v i 0) (get_or s i 0 - 1))) e
              (falls_weak Webster v i (get_or s i 0 - 1) (get_or s i 0) fi (omega arith))
          | inr ne ↦ elim (decide_AtMost (quotient Webster (get_or v j 0) (get_or s j 0)) (quotient Webster (get_or v i 0) (get_or s i 0 - 1))) [
            | inl le ↦ le
            | inr not ↦ absurd (impossible v seats s h.0 h.1 i j ne fi fj some not)
          ]
        ];
  },
)
