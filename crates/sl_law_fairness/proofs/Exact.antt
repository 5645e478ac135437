-- Where seats are as votes, each last claim is above each next one.
use Rattle.std.proofs.Common.{◌≡◌, ℕ, ◌+◌, ◌-◌, ◌*◌, ◌<◌, List, length, get_or, sum, inl, inr, arith, sym, subst}
use Rattle.std.proofs.Math.Nat.{le_of_mul-le-mul_left}
use Rattle.std.proofs.lemmas.Nat.{mul-lt}
use Rattle.std.proofs.lemmas.Bool.{cases_lt}
use Rattle.sl_base_quotients.specs.declared.method.Divisor.{Divisor}
use Rattle.sl_base_quotients.specs.declared.method.Divisor.TheVariants.{Adams, Dean, Hill, Webster, Jefferson}
use Rattle.sl_base_quotients.specs.Quotient.{Below, quotient}
use Rattle.sl_base_quotients.proofs.Order.{Below-AtMost_weak}
use Rattle.sl_law_meaning.specs.methods.Field.{InField, no_minima}
use Rattle.sl_law_meaning.specs.methods.Allocations.{IsDivisorAllocation}
use Rattle.sl_law_meaning.proofs.methods.SeatSums.{none_needed, entry_le_sum}
use Rattle.sl_law_fairness.specs.Principles.{Exact}
use Rattle.sl_law_fairness.proofs.Apart.{only}

-- a + 1 seats for x votes and b for y, in proportion
over : (method : Divisor) (x y a b : ℕ) → 0 < x → 0 < y → y * (a + 1) ≡ x * b → Below (quotient method y b) (quotient method x a)
over Adams x y a b px py e = omega (arith, e, py)
over Jefferson x y a b px py e = omega (arith, e, px)
over Webster x y a b px py e = omega (arith, e, px)
over Hill x y a b px py e =
    let e' : x * b ≡ y * (a + 1) = sym e in
    let one : x * b * (x * b) ≡ y * (a + 1) * (y * (a + 1)) = λ i. e' i * e' i in
    let two : x * (x * b) ≡ x * (y * (a + 1)) = λ i. x * e' i in
    let some : 0 < y * y = mul-lt 0 0 y y py py in
    omega (arith, one, two, some)
over Dean x y a b px py e =
    let e' : x * b ≡ y * (a + 1) = sym e in
    let one : x * b * ((b + 1) * (2 * a + 1)) ≡ y * (a + 1) * ((b + 1) * (2 * a + 1)) = λ i. e' i * ((b + 1) * (2 * a + 1)) in
    omega (arith, one, py)

cancelled : (k m n : ℕ) → 0 < k → k * m ≡ k * n → m ≡ n
cancelled k m n pos e =
    let one = le_of_mul-le-mul_left {m = m} {n = n} {k = k} (omega (arith, e)) pos in
    let two = le_of_mul-le-mul_left {m = n} {n = m} {k = k} (omega (arith, e)) pos in
    omega (arith, one, two)

module _ (method : Divisor) (v : List ℕ) (seats : ℕ) (s : List ℕ) (some : 0 < sum v) (long : length s ≡ length v) (total : sum s ≡ seats)
    (shares : (i : ℕ) → sum v * get_or s i 0 ≡ seats * get_or v i 0) where
  none : (i : ℕ) → get_or v i 0 ≡ 0 → get_or s i 0 ≡ 0
  none i z =
      let e = subst (λ n. sum v * get_or s i 0 ≡ seats * n) z (shares i) in
      cancelled (sum v) (get_or s i 0) 0 some (omega (arith, e))

  has_votes : (i : ℕ) → 0 < get_or s i 0 → InField v i
  has_votes i up =
      elim (cases_lt 0 (get_or v i 0)) [
        | inl f ↦ f
        | inr g ↦ absurd (let z = none i (omega (arith, g)) in omega (arith, z, up))
      ]

  -- of any two, where the one has seats
  above : (i j : ℕ) → 0 < get_or s i 0 → InField v j → Below (quotient method (get_or v j 0) (get_or s j 0)) (quotient method (get_or v i 0) (get_or s i 0 - 1))
  above i j up fj =
      let x = get_or v i 0 in
      let y = get_or v j 0 in
      let all = entry_le_sum s i in
      let pos : 0 < seats = omega (arith, all, total, up) in
      let si : get_or s j 0 * (sum v * get_or s i 0) ≡ get_or s j 0 * (seats * x) = λ k. get_or s j 0 * shares i k in
      let sj : get_or s i 0 * (sum v * get_or s j 0) ≡ get_or s i 0 * (seats * y) = λ k. get_or s i 0 * shares j k in
      let cross : y * get_or s i 0 ≡ x * get_or s j 0 = cancelled seats (y * get_or s i 0) (x * get_or s j 0) pos (omega (arith, si, sj)) in
      let one : get_or s i 0 ≡ get_or s i 0 - 1 + 1 = omega (arith, up) in
      over method x y (get_or s i 0 - 1) (get_or s j 0) (has_votes i up) fj (subst (λ n. y * n ≡ x * get_or s j 0) one cross)

  allocated : IsDivisorAllocation method v (no_minima v) seats s
  allocated = record {
    same_length = long;
    total = total;
    minima = λ i. let z = none_needed (length v) i in omega (arith, z);
    outside = λ i e. let z = none_needed (length v) i in let o = none i e in omega (arith, z, o);
    min_max = λ i j fi fj less.
        Below-AtMost_weak (quotient method (get_or v j 0) (get_or s j 0)) (quotient method (get_or v i 0) (get_or s i 0 - 1)) (above i j (omega (arith, less)) fj);
  }

  unique : (t : List ℕ) → IsDivisorAllocation method v (no_minima v) seats t → (i : ℕ) → get_or t i 0 ≡ get_or s i 0
  unique =
      only method v (no_minima v) seats s total (λ i. let z = none_needed (length v) i in omega (arith, z)) (λ i over. has_votes i (omega (arith, over)))
      (λ i j over fj. above i j (omega (arith, over)) fj)

pub exact : Exact
exact method v seats s some long total shares = (allocated method v seats s some long total shares, unique method v seats s some long total shares)
