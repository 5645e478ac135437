-- Of the divisors between the claims, one that is a multiple of the greatest power of ten has the fewest digits.
use Rattle.std.proofs.Common.{◌≡◌, ℕ, zero, suc, ◌+◌, ◌-◌, ◌*◌, ◌^◌, ◌<◌, ◌≤◌, List, inl, inr, arith, refl, sym, ap, ◌∙◌}
use Rattle.std.proofs.Math.Nat.{pow-suc, one-le-pow, mul-le-mul_right, le_of_mul-le-mul_right}
use Rattle.std.proofs.lemmas.Nat.{mul-le, pow-add}
use Rattle.std.proofs.lemmas.Bool.{cases_lt}
use Rattle.sl_base_quotients.specs.declared.method.Divisor.{Divisor}
use Rattle.sl_base_quotients.specs.declared.method.Divisor.TheVariants.{Adams, Dean, Hill, Webster, Jefferson}
use Rattle.sl_base_quotients.specs.Quotient.{Quotient, AtMost, SameQuotient}
use Rattle.sl_base_quotients.specs.Bounds.{HasWeight, last_quotient, next_quotient}
use Rattle.sl_base_quotients.proofs.Order.{AtMost-Below, Below-AtMost}
use Rattle.sl_law_margins.specs.Decimals.{scaled, HasDigits}
use Rattle.sl_law_margins.specs.Divisors.{as_quotient, Separates, IsShortest, unit_places}
use Rattle.sl_law_margins.specs.inner.Units.{units}

pub ten_pos : (n : ℕ) → 0 < 10 ^ n
ten_pos n = one-le-pow n 10 (omega arith)

-- as quotients divisors keep their order, and are positive
pub keeps_order : (method : Divisor) (x y : Quotient) → AtMost x y → AtMost (as_quotient method x) (as_quotient method y)
keeps_order Adams x y h = h
keeps_order Dean x y h = h
keeps_order Hill x y h = let up = mul-le (x.num * y.den) (x.num * y.den) (y.num * x.den) (y.num * x.den) h h in omega (arith, up)
keeps_order Webster x y h = h
keeps_order Jefferson x y h = h

square_pos : (n : ℕ) → 0 < n → 0 < n * n
square_pos zero h = absurd (omega arith)
square_pos (suc n) h = omega arith

square_back : (n : ℕ) → 0 < n * n → 0 < n
square_back zero h = absurd (omega arith)
square_back (suc n) h = omega arith

pub keeps_positive : (method : Divisor) (x : Quotient) → 0 < x.num → 0 < (as_quotient method x).num
keeps_positive Adams x h = h
keeps_positive Dean x h = h
keeps_positive Hill x h = square_pos x.num h
keeps_positive Webster x h = h
keeps_positive Jefferson x h = h

was_positive : (method : Divisor) (x : Quotient) → 0 < (as_quotient method x).num → 0 < x.num
was_positive Adams x h = h
was_positive Dean x h = h
was_positive Hill x h = square_back x.num h
was_positive Webster x h = h
was_positive Jefferson x h = h

above_zero : (a b c d : ℕ) → a * d < c * b → 0 < c
above_zero a b zero d h = absurd (omega arith)
above_zero a b (suc c) d h = omega arith

no_digits : (m : ℕ) → m < 10 ^ 0 → m ≡ 0
no_digits m h = omega arith

-- a number of a coarser scale is a multiple in the finer one
coarser : (m up down p e d : ℕ) → up + p ≡ (down + e) + d → m * 10 ^ up * 10 ^ p ≡ (m * 10 ^ d * 10 ^ e) * 10 ^ down
coarser m up down p e d same =
    let one = pow-add 10 up p in
    let two = pow-add 10 (down + e) d in
    let three = pow-add 10 down e in
    let all : 10 ^ (up + p) ≡ 10 ^ ((down + e) + d) = ap (λ n. 10 ^ n) same in
    let four : 10 ^ up * 10 ^ p ≡ (10 ^ down * 10 ^ e) * 10 ^ d = sym one ∙ all ∙ two ∙ ap (λ n. n * 10 ^ d) three in
    let five : m * (10 ^ up * 10 ^ p) ≡ m * ((10 ^ down * 10 ^ e) * 10 ^ d) = ap (λ n. m * n) four in
    omega (arith, five)

-- and one of a finer scale, with fewer digits than k, is no greater than the number of k + 1 digits 10 ^ k there
finer : (m k up down p e d : ℕ) → m < 10 ^ k → down + e ≡ (up + p) + d → m * 10 ^ up * 10 ^ p ≤ (10 ^ k * 10 ^ e) * 10 ^ down
finer m k up down p e d few same =
    let one = pow-add 10 up p in
    let two = pow-add 10 (up + p) d in
    let three = pow-add 10 down e in
    let all : 10 ^ (down + e) ≡ 10 ^ ((up + p) + d) = ap (λ n. 10 ^ n) same in
    let four : 10 ^ down * 10 ^ e ≡ (10 ^ up * 10 ^ p) * 10 ^ d = sym three ∙ all ∙ two ∙ ap (λ n. n * 10 ^ d) one in
    let five : 10 ^ k * (10 ^ down * 10 ^ e) ≡ 10 ^ k * ((10 ^ up * 10 ^ p) * 10 ^ d) = ap (λ n. 10 ^ k * n) four in
    let six : m * (10 ^ up * 10 ^ p) * 1 ≤ 10 ^ k * (10 ^ up * 10 ^ p) * 10 ^ d =
    mul-le (m * (10 ^ up * 10 ^ p)) 1 (10 ^ k * (10 ^ up * 10 ^ p)) (10 ^ d) (mul-le-mul_right (10 ^ up * 10 ^ p) (omega arith)) (ten_pos d) in
    omega (arith, five, six)

module _ (method : Divisor) (v s : List ℕ) where
  -- what lies between two divisors that separate the claims does too
  pub convex : (x y z : Quotient) → Separates method v s x → Separates method v s y → 0 < z.num → AtMost x z → AtMost z y → Separates method v s z
  convex x y z hx hy pos low high = record {
    above_next = λ i f. Below-AtMost (next_quotient method v s i) (as_quotient method x) (as_quotient method z)
        (keeps_positive method z pos) (hx.above_next i f) (keeps_order method x z low);
    below_last = λ i f a. AtMost-Below (as_quotient method z) (as_quotient method y) (last_quotient method v s i)
        (keeps_positive method z pos) (keeps_order method z y high) (hy.below_last i f a);
  }

  pub separates_same : (x y : Quotient) → SameQuotient x y → 0 < y.num → Separates method v s x → Separates method v s y
  separates_same x y same pos h = convex x x y h h pos (omega arith) (omega arith)

  module _ (f : ℕ) (has : HasWeight v f) where
    pub positive : (x : Quotient) → Separates method v s x → 0 < x.num
    positive x h =
        let n = next_quotient method v s f in
        let q = as_quotient method x in
        was_positive method x (above_zero n.num n.den q.num q.den (h.above_next f has))

    -- a divisor of so many digits is no zero
    some_digits : (k m up down : ℕ) → m < 10 ^ k → Separates method v s (scaled m up down) → k ≡ 0 → ⊥
    some_digits k m up down few h z =
        let pos = positive (scaled m up down) h in
        let few' : m < 10 ^ 0 = rw z at few in
        let none : m ≡ 0 = no_digits m few' in
        let same : m * 10 ^ up ≡ 0 * 10 ^ up = ap (λ n. n * 10 ^ up) none in
        omega (arith, pos, same)

    module _ (x e t : ℕ) (is : x ≡ t * 10 ^ e) (hx : Separates method v s (units method x))
        (no_more : (m : ℕ) → Separates method v s (units method (m * 10 ^ (e + 1))) → ⊥) where
      abbrev p : ℕ
      p = unit_places method

      in_units : (k : ℕ) → t < 10 ^ k → HasDigits k (units method x)
      in_units k few = (t, e, p, few, ap (λ n. n * 10 ^ p) is)

      -- no decimal number of a coarser scale separates the claims
      none_coarser : (m up down d : ℕ) → up + p ≡ (down + (e + 1)) + d → Separates method v s (scaled m up down) → ⊥
      none_coarser m up down d same h =
          let eq = coarser m up down p (e + 1) d same in
          let y = units method (m * 10 ^ d * 10 ^ (e + 1)) in
          let pos = positive (scaled m up down) h in
          let ps : 0 < (m * 10 ^ up) * 10 ^ p = mul-le 1 1 (m * 10 ^ up) (10 ^ p) pos (ten_pos p) in
          let py : 0 < m * 10 ^ d * 10 ^ (e + 1) = factor (m * 10 ^ d * 10 ^ (e + 1)) (10 ^ down) (omega (arith, ps, eq)) in
          no_more (m * 10 ^ d) (separates_same (scaled m up down) y eq py h)
        where
          factor : (a b : ℕ) → 0 < a * b → 0 < a
          factor zero b h = absurd (omega arith)
          factor (suc a) b h = omega arith

      -- one of a finer scale has no fewer digits
      none_fewer : (k m up down d : ℕ) → m < 10 ^ k → down + e ≡ (up + p) + d → Separates method v s (scaled m up down) → 10 ^ k ≤ t → ⊥
      none_fewer zero m up down d few same h many = some_digits zero m up down few h refl
      none_fewer (suc k) m up down d few same h many =
          let low = finer m (suc k) up down p e d few same in
          let z = 10 ^ k * 10 ^ (e + 1) in
          let one : 10 ^ (e + 1) ≡ 10 ^ e * 10 ^ 1 = pow-add 10 e 1 in
          let two : 10 ^ suc k ≡ 10 ^ k * 10 = pow-suc 10 k in
          let three : 10 ^ k * 10 ^ (e + 1) ≡ 10 ^ k * (10 ^ e * 10 ^ 1) = ap (λ n. 10 ^ k * n) one in
          let four : 10 ^ suc k * 10 ^ e ≡ (10 ^ k * 10) * 10 ^ e = ap (λ n. n * 10 ^ e) two in
          let eq : z ≡ 10 ^ suc k * 10 ^ e = omega (arith, three, four) in
          let pz : 0 < z = mul-le 1 1 (10 ^ k) (10 ^ (e + 1)) (ten_pos k) (ten_pos (e + 1)) in
          let eqd : z * 10 ^ down ≡ (10 ^ suc k * 10 ^ e) * 10 ^ down = ap (λ n. n * 10 ^ down) eq in
          let high : 10 ^ suc k * 10 ^ e ≤ t * 10 ^ e = mul-le-mul_right (10 ^ e) many in
          let up_to : z * 10 ^ p ≤ x * 10 ^ p = mul-le-mul_right (10 ^ p) (omega (arith, eq, high, is)) in
          no_more (10 ^ k) (convex (scaled m up down) (units method x) (units method z) h hx pz (omega (arith, low, eqd)) up_to)

      pub fewest_of : (k m up down : ℕ) → m < 10 ^ k → Separates method v s (scaled m up down) → HasDigits k (units method x)
      fewest_of k m up down few h =
          elim (cases_lt (down + e) (up + p)) [
            | inl l ↦ absurd (none_coarser m up down ((up + p) - (down + (e + 1))) (omega arith) h)
            | inr g ↦ elim (cases_lt t (10 ^ k)) [
              | inl few' ↦ in_units k few'
              | inr many ↦ absurd (none_fewer k m up down ((down + e) - (up + p)) few (omega arith) h many)
            ]
          ]

    -- a power of ten has one digit
    pub power_fewest : (x e : ℕ) → x ≡ 10 ^ e → (k m up down : ℕ) → m < 10 ^ k → Separates method v s (scaled m up down) → HasDigits k (units method x)
    power_fewest x e is zero m up down few h = absurd (some_digits zero m up down few h refl)
    power_fewest x e is (suc k) m up down few h =
        let two : 10 ^ suc k ≡ 10 ^ k * 10 = pow-suc 10 k in
        let pos = ten_pos k in
        let same : x * 10 ^ unit_places method ≡ (1 * 10 ^ e) * 10 ^ unit_places method = ap (λ n. n * 10 ^ unit_places method) (is ∙ omega arith) in
        (1, e, unit_places method, omega (arith, two, pos), same)

    -- and a decimal number that is written otherwise separates as well, in as few digits
    pub shortest_same : (x y : Quotient) → SameQuotient y x → 0 < x.den → 0 < y.num → Separates method v s x →
        ((k m up down : ℕ) → m < 10 ^ k → Separates method v s (scaled m up down) → HasDigits k x) → IsShortest method v s y
    shortest_same x y same den num hx fewest = record {
      separates = separates_same x y (sym same) num hx;
      fewest = λ k m up down few h.
          let d = fewest k m up down few h in
          (d.0, d.1, d.2, d.3, same_through y x (scaled d.0 d.1 d.2) den same d.4);
    } where
      same_through : (a b c : Quotient) → 0 < b.den → SameQuotient a b → SameQuotient b c → SameQuotient a c
      same_through a b c pos ab bc =
          let one : a.num * b.den * c.den ≡ b.num * a.den * c.den = ap (λ n. n * c.den) ab in
          let two : b.num * c.den * a.den ≡ c.num * b.den * a.den = ap (λ n. n * a.den) bc in
          let low : a.num * c.den * b.den ≤ c.num * a.den * b.den = omega (arith, one, two) in
          let high : c.num * a.den * b.den ≤ a.num * c.den * b.den = omega (arith, one, two) in
          let down = le_of_mul-le-mul_right low pos in
          let up = le_of_mul-le-mul_right high pos in
          omega (arith, down, up)
