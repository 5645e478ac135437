-- The five methods in order: where a < b, the quotient of what a method divides by at b and at a falls from each method to the next.
use Rattle.std.proofs.Common.{◌≡◌, ℕ, zero, suc, ◌+◌, ◌-◌, ◌*◌, ◌<◌, ◌≤◌, get_or, inl, inr, arith, sym, subst}
use Rattle.std.proofs.Math.Nat.{mul-le-mul_left, le_of_mul-le-mul_left, mul-lt-mul_of_pos_right}
use Rattle.std.proofs.lemmas.Nat.{mul-lt, mul-le}
use Rattle.std.proofs.lemmas.Bool.{cases_lt}
use Rattle.sl_base_quotients.specs.declared.method.Divisor.{Divisor}
use Rattle.sl_base_quotients.specs.declared.method.Divisor.TheVariants.{Adams, Dean, Hill, Webster, Jefferson}
use Rattle.sl_base_quotients.specs.Quotient.{AtMost, Below, quotient, method_number}
use Rattle.sl_base_quotients.specs.inner.QuotientLaws.{quotient_positive, quotient_rises}
use Rattle.sl_base_quotients.proofs.Order.{AtMost-trans, Below-AtMost, Below-irrefl}
use Rattle.sl_law_fairness.specs.MethodOrder.{FavoursLarger}
use Rattle.sl_law_fairness.proofs.Chains.{falls_weak, in_field}

-- x and y votes, A and B what one method divides by, and A' and B' another
cross : (x y A B A' B' : ℕ) → 0 < x → x * B ≤ y * A → y * A' ≤ x * B' → B' * A < B * A' → ⊥
cross x y A B A' B' pos h k less =
    let one : A' * (x * B) ≤ A' * (y * A) = mul-le-mul_left A' h in
    let two : A * (y * A') ≤ A * (x * B') = mul-le-mul_left A k in
    let le : B * A' ≤ B' * A = le_of_mul-le-mul_left {m = B * A'} {n = B' * A} {k = x} (omega (arith, one, two)) pos in
    omega (arith, le, less)

squared : (x y A B : ℕ) → x * B ≤ y * A → x * x * (B * B) ≤ y * y * (A * A)
squared x y A B h = let p : x * B * (x * B) ≤ y * A * (y * A) = mul-le (x * B) (x * B) (y * A) (y * A) h h in omega (arith, p)

-- what holds of n and a larger number holds of a and b
of_less : (P : ℕ → ℕ → Type 0) → ((n k : ℕ) → P n (n + k + 1)) → (a b : ℕ) → a < b → P a b
of_less P h a b less = let e : a + (b - a - 1) + 1 ≡ b = omega (arith, less) in subst (P a) e (h a (b - a - 1))

of_some : (P : ℕ → ℕ → Type 0) → ((n k : ℕ) → P (n + 1) (n + k + 2)) → (a b : ℕ) → 0 < a → a < b → P a b
of_some P h a b pos less =
    let e : a - 1 + (b - a - 1) + 2 ≡ b = omega (arith, pos, less) in
    let f : a - 1 + 1 ≡ a = omega (arith, pos) in
    subst (λ n. P n b) f (subst (P (a - 1 + 1)) e (h (a - 1) (b - a - 1)))

halves : (a b : ℕ) → a < b → (2 * a + 1) * (b + 1) < (2 * b + 1) * (a + 1)
halves = of_less (λ a b. (2 * a + 1) * (b + 1) < (2 * b + 1) * (a + 1)) (λ n k. omega arith)

adams_dean : (a b : ℕ) → 0 < a → a < b → (2 * a + 1) * (2 * b * (b + 1)) * a < b * ((2 * b + 1) * (2 * a * (a + 1)))
adams_dean a b pos less =
    let some : 0 < a * b = mul-lt 0 0 a b pos (omega (arith, less)) in
    let up : (2 * a + 1) * (b + 1) * (a * b) < (2 * b + 1) * (a + 1) * (a * b) = mul-lt-mul_of_pos_right (halves a b less) some in
    omega (arith, up)

adams_hill : (a b : ℕ) → 0 < a → a < b → b * (b + 1) * (a * a) < b * b * (a * (a + 1))
adams_hill = of_some (λ a b. b * (b + 1) * (a * a) < b * b * (a * (a + 1))) (λ n k. omega arith)

adams_webster : (a b : ℕ) → a < b → (2 * b + 1) * a < b * (2 * a + 1)
adams_webster = of_less (λ a b. (2 * b + 1) * a < b * (2 * a + 1)) (λ n k. omega arith)

adams_jefferson : (a b : ℕ) → a < b → (b + 1) * a < b * (a + 1)
adams_jefferson = of_less (λ a b. (b + 1) * a < b * (a + 1)) (λ n k. omega arith)

dean_webster : (a b : ℕ) → a < b → (2 * b + 1) * ((2 * b + 1) * (2 * a * (a + 1))) < (2 * a + 1) * (2 * b * (b + 1)) * (2 * a + 1)
dean_webster = of_less (λ a b. (2 * b + 1) * ((2 * b + 1) * (2 * a * (a + 1))) < (2 * a + 1) * (2 * b * (b + 1)) * (2 * a + 1)) (λ n k. omega arith)

dean_jefferson : (a b : ℕ) → a < b → (b + 1) * ((2 * b + 1) * (2 * a * (a + 1))) < (2 * a + 1) * (2 * b * (b + 1)) * (a + 1)
dean_jefferson = of_less (λ a b. (b + 1) * ((2 * b + 1) * (2 * a * (a + 1))) < (2 * a + 1) * (2 * b * (b + 1)) * (a + 1)) (λ n k. omega arith)

hill_webster : (a b : ℕ) → a < b → (2 * b + 1) * (2 * b + 1) * (a * (a + 1)) < b * (b + 1) * ((2 * a + 1) * (2 * a + 1))
hill_webster = of_less (λ a b. (2 * b + 1) * (2 * b + 1) * (a * (a + 1)) < b * (b + 1) * ((2 * a + 1) * (2 * a + 1))) (λ n k. omega arith)

-- by what Hill's and Webster's methods divide
dean_by : (A B S T X Y : ℕ) → X ≡ 2 * (T * A) → Y ≡ 2 * (S * B) → 0 < A * B → T * T * A < B * (S * S) → B * (X * X) < Y * Y * A
dean_by A B S T X Y ex ey pos less =
    let up : T * T * A * (A * B) < B * (S * S) * (A * B) = mul-lt-mul_of_pos_right less pos in
    let plain : B * (2 * (T * A) * (2 * (T * A))) < 2 * (S * B) * (2 * (S * B)) * A = omega (arith, up) in
    subst (λ n. B * (n * n) < Y * Y * A) (sym ex) (subst (λ n. B * (2 * (T * A) * (2 * (T * A))) < n * n * A) (sym ey) plain)

dean_hill : (a b : ℕ) → 0 < a → a < b → b * (b + 1) * ((2 * b + 1) * (2 * a * (a + 1)) * ((2 * b + 1) * (2 * a * (a + 1)))) < (2 * a + 1) * (2 * b * (b + 1)) * ((2 * a + 1) * (2 * b * (b + 1))) * (a * (a + 1))
dean_hill a b pos less =
    let pa : 0 < a * (a + 1) = mul-lt 0 0 a (a + 1) pos (omega arith) in
    let pb : 0 < b * (b + 1) = mul-lt 0 0 b (b + 1) (omega (arith, less)) (omega arith) in
    dean_by (a * (a + 1)) (b * (b + 1)) (2 * a + 1) (2 * b + 1) ((2 * b + 1) * (2 * a * (a + 1))) ((2 * a + 1) * (2 * b * (b + 1))) (omega arith) (omega arith)
    (mul-lt 0 0 (a * (a + 1)) (b * (b + 1)) pa pb) (hill_webster a b less)

hill_jefferson : (a b : ℕ) → a < b → (b + 1) * (b + 1) * (a * (a + 1)) < b * (b + 1) * ((a + 1) * (a + 1))
hill_jefferson = of_less (λ a b. (b + 1) * (b + 1) * (a * (a + 1)) < b * (b + 1) * ((a + 1) * (a + 1))) (λ n k. omega arith)

webster_jefferson : (a b : ℕ) → a < b → (b + 1) * (2 * a + 1) < (2 * b + 1) * (a + 1)
webster_jefferson = of_less (λ a b. (b + 1) * (2 * a + 1) < (2 * b + 1) * (a + 1)) (λ n k. omega arith)

square_pos : (x : ℕ) → 0 < x → 0 < x * x
square_pos x h = mul-lt 0 0 x x h h

-- who holds none has an infinite claim by the first three
held : (method : Divisor) (x a : ℕ) → method_number method < 3 → 0 < (quotient method x a).den → 0 < a
held Adams x a less pos = pos
held Dean x zero less pos = absurd (omega (arith, pos))
held Dean x (suc a) less pos = omega arith
held Hill x zero less pos = absurd (omega (arith, pos))
held Hill x (suc a) less pos = omega arith
held Webster x a less pos = absurd (omega (arith, less))
held Jefferson x a less pos = absurd (omega (arith, less))

last : (method : Divisor) → method_number method ≤ 4
last Adams = omega arith
last Dean = omega arith
last Hill = omega arith
last Webster = omega arith
last Jefferson = omega arith

apart : (method later : Divisor) (x y a b : ℕ) → method_number method < method_number later → 0 < x → 0 < (quotient method x a).den → a < b →
    AtMost (quotient method x a) (quotient method y b) → AtMost (quotient later y b) (quotient later x a) → ⊥
apart Adams Dean x y a b o px pos less h k =
    cross x y a b ((2 * b + 1) * (2 * a * (a + 1))) ((2 * a + 1) * (2 * b * (b + 1))) px h (omega (arith, k)) (adams_dean a b pos less)
apart Adams Hill x y a b o px pos less h k =
    cross (x * x) (y * y) (a * a) (b * b) (a * (a + 1)) (b * (b + 1)) (square_pos x px) (squared x y a b h) k (adams_hill a b pos less)
apart Adams Webster x y a b o px pos less h k = cross x y a b (2 * a + 1) (2 * b + 1) px h (omega (arith, k)) (adams_webster a b less)
apart Adams Jefferson x y a b o px pos less h k = cross x y a b (a + 1) (b + 1) px h k (adams_jefferson a b less)
apart Dean Hill x y a b o px pos less h k =
    cross (x * x) (y * y) ((2 * b + 1) * (2 * a * (a + 1)) * ((2 * b + 1) * (2 * a * (a + 1)))) ((2 * a + 1) * (2 * b * (b + 1)) * ((2 * a + 1) * (2 * b * (b + 1)))) (a * (a + 1)) (b * (b + 1))
    (square_pos x px) (squared x y ((2 * b + 1) * (2 * a * (a + 1))) ((2 * a + 1) * (2 * b * (b + 1))) (omega (arith, h))) k (dean_hill a b (held Dean x a (omega arith) pos) less)
apart Dean Webster x y a b o px pos less h k =
    cross x y ((2 * b + 1) * (2 * a * (a + 1))) ((2 * a + 1) * (2 * b * (b + 1))) (2 * a + 1) (2 * b + 1) px (omega (arith, h)) (omega (arith, k)) (dean_webster a b less)
apart Dean Jefferson x y a b o px pos less h k =
    cross x y ((2 * b + 1) * (2 * a * (a + 1))) ((2 * a + 1) * (2 * b * (b + 1))) (a + 1) (b + 1) px (omega (arith, h)) k (dean_jefferson a b less)
apart Hill Webster x y a b o px pos less h k =
    cross (x * x) (y * y) (a * (a + 1)) (b * (b + 1)) ((2 * a + 1) * (2 * a + 1)) ((2 * b + 1) * (2 * b + 1)) (square_pos x px) h (squared y x (2 * b + 1) (2 * a + 1) (omega (arith, k))) (hill_webster a b less)
apart Hill Jefferson x y a b o px pos less h k =
    cross (x * x) (y * y) (a * (a + 1)) (b * (b + 1)) ((a + 1) * (a + 1)) ((b + 1) * (b + 1)) (square_pos x px) h (squared y x (b + 1) (a + 1) k) (hill_jefferson a b less)
apart Webster Jefferson x y a b o px pos less h k = cross x y (2 * a + 1) (2 * b + 1) (a + 1) (b + 1) px (omega (arith, h)) k (webster_jefferson a b less)
apart Jefferson later x y a b o px pos less h k = absurd (let t = last later in omega (arith, o, t))
apart _ _ x y a b o px pos less h k = absurd (omega (arith, o))

-- a claim that is finite by one is by a later one
finite_held : (method : Divisor) (x a : ℕ) → 0 < a → 0 < (quotient method x a).den
finite_held method x zero h = absurd (omega (arith, h))
finite_held Adams x (suc a) h = omega arith
finite_held Dean x (suc a) h = omega arith
finite_held Hill x (suc a) h = omega arith
finite_held Webster x (suc a) h = omega arith
finite_held Jefferson x (suc a) h = omega arith

finite_later : (method later : Divisor) (x a : ℕ) → method_number method < method_number later → 0 < (quotient method x a).den → 0 < (quotient later x a).den
finite_later Adams later x a o pos = finite_held later x a pos
finite_later Dean later x a o pos = finite_held later x a (held Dean x a (omega arith) pos)
finite_later Hill later x a o pos = finite_held later x a (held Hill x a (omega arith) pos)
finite_later Webster Jefferson x a o pos = omega arith
finite_later Jefferson later x a o pos = absurd (let t = last later in omega (arith, o, t))
finite_later _ _ x a o pos = absurd (omega (arith, o))

pub favours_larger : FavoursLarger
favours_larger method later o v m seats house s t hs ht i j less finite more =
    elim (cases_lt (get_or t j 0) (get_or s j 0)) [
      | inr g ↦ g
      | inl lost ↦ absurd (
          let a = get_or s i 0 in
          let b = get_or t j 0 in
          let x = get_or v i 0 in
          let y = get_or v j 0 in
          let mi = hs.minima i in
          let mj = ht.minima j in
          let above_i : get_or m i 0 < get_or t i 0 = omega (arith, mi, more) in
          let above_j : get_or m j 0 < get_or s j 0 = omega (arith, mj, lost) in
          let fi = in_field later v m house t ht i above_i in
          let fj = in_field method v m seats s hs j above_j in
          let first : AtMost (quotient method x a) (quotient method y b) =
          AtMost-trans (quotient method x a) (quotient method y (get_or s j 0 - 1)) (quotient method y b) (quotient_positive method y (get_or s j 0 - 1) fj)
          (hs.min_max j i fj fi above_j) (falls_weak method v j b (get_or s j 0 - 1) fj (omega (arith, lost))) in
          let second : AtMost (quotient later y b) (quotient later x a) =
          AtMost-trans (quotient later y b) (quotient later x (get_or t i 0 - 1)) (quotient later x a) (quotient_positive later x (get_or t i 0 - 1) fi)
          (ht.min_max i j fi fj above_i) (falls_weak later v i a (get_or t i 0 - 1) fi (omega (arith, more))) in
          elim (cases_lt a b) [
            | inl ab ↦ apart method later x y a b o fi finite ab first second
            | inr ba ↦
                (let up : Below (quotient later x a) (quotient later y a) = quotient_rises later x y a less (finite_later method later x a o finite) in
                let top = AtMost-trans (quotient later y a) (quotient later y b) (quotient later x a) (quotient_positive later y b fj) (falls_weak later v j b a fj ba) second in
                Below-irrefl (quotient later x a) (Below-AtMost (quotient later x a) (quotient later y a) (quotient later x a) (quotient_positive later x a fi) up top))
          ])
    ]
