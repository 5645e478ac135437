-- Votes that grow by different factors: a quotient is a power of the votes by a number that the seats held give.
use Rattle.std.proofs.Common.{◌≡◌, ◌≢◌, ℕ, zero, suc, ◌+◌, ◌-◌, ◌*◌, ◌<◌, ◌≤◌, List, get_or, inl, inr, arith, refl, sym, subst}
use Rattle.std.proofs.Math.Nat.{mul-le-mul_left, le_of_mul-le-mul_left, mul-lt-mul_of_pos_right}
use Rattle.std.proofs.lemmas.Nat.{mul-lt, mul-le}
use Rattle.std.proofs.lemmas.Bool.{cases_lt}
use Rattle.sl_base_quotients.specs.declared.method.Divisor.{Divisor}
use Rattle.sl_base_quotients.specs.declared.method.Divisor.TheVariants.{Adams, Dean, Hill, Webster, Jefferson}
use Rattle.sl_base_quotients.specs.Quotient.{AtMost, quotient}
use Rattle.sl_base_quotients.specs.inner.QuotientLaws.{quotient_positive}
use Rattle.sl_base_quotients.proofs.Order.{AtMost-trans}
use Rattle.sl_law_meaning.specs.methods.Field.{InField}
use Rattle.sl_law_meaning.specs.methods.Allocations.{IsDivisorAllocation}
use Rattle.sl_law_fairness.specs.ByDivisor.{power}
use Rattle.sl_law_fairness.specs.Votes.{PopulationMonotone, SameFactor, AbsolutelyMonotone}
use Rattle.sl_law_fairness.proofs.Chains.{falls_weak, falls_strict, in_field}
use Rattle.sl_law_fairness.proofs.Moves.{holder_tied, taker_tied}

-- the numerator is the votes (squared under Hill) by a factor of the seats held, which is positive
abbrev pub factor : Divisor → ℕ → ℕ
factor Adams a = 1
factor Dean a = 2 * a + 1
factor Hill a = 1
factor Webster a = 2
factor Jefferson a = 1

abbrev pub below : Divisor → ℕ → ℕ
below Adams a = a
below Dean a = 2 * a * (a + 1)
below Hill a = a * (a + 1)
below Webster a = 2 * a + 1
below Jefferson a = a + 1

pub num_is : (method : Divisor) (v a : ℕ) → (quotient method v a).num ≡ power method v * factor method a
num_is Adams v a = omega arith
num_is Dean v a = refl
num_is Hill v a = omega arith
num_is Webster v a = omega arith
num_is Jefferson v a = omega arith

pub den_is : (method : Divisor) (v a : ℕ) → (quotient method v a).den ≡ below method a
den_is Adams v a = refl
den_is Dean v a = refl
den_is Hill v a = refl
den_is Webster v a = refl
den_is Jefferson v a = refl

pub factor_positive : (method : Divisor) (a : ℕ) → 0 < factor method a
factor_positive Adams a = omega arith
factor_positive Dean a = omega arith
factor_positive Hill a = omega arith
factor_positive Webster a = omega arith
factor_positive Jefferson a = omega arith

pub power_positive : (method : Divisor) (v : ℕ) → 0 < v → 0 < power method v
power_positive Adams v h = h
power_positive Dean v h = h
power_positive Hill v h = mul-lt 0 0 v v h h
power_positive Webster v h = h
power_positive Jefferson v h = h

squares : (a b c d : ℕ) → a * b < c * d → a * a * (b * b) < c * c * (d * d)
squares a b c d h = let p : a * b * (a * b) < c * d * (c * d) = mul-lt (a * b) (a * b) (c * d) (c * d) h h in omega (arith, p)

same_squares : (a b c d : ℕ) → a * b ≡ c * d → a * a * (b * b) ≡ c * c * (d * d)
same_squares a b c d h = let p : a * b * (a * b) ≡ c * d * (c * d) = λ i. h i * h i in omega (arith, p)

pub powers_cross : (method : Divisor) (a b c d : ℕ) → a * b < c * d → power method a * power method b < power method c * power method d
powers_cross Adams a b c d h = h
powers_cross Dean a b c d h = h
powers_cross Hill a b c d h = squares a b c d h
powers_cross Webster a b c d h = h
powers_cross Jefferson a b c d h = h

pub powers_same : (method : Divisor) (a b c d : ℕ) → a * b ≡ c * d → power method a * power method b ≡ power method c * power method d
powers_same Adams a b c d h = h
powers_same Dean a b c d h = h
powers_same Hill a b c d h = same_squares a b c d h
powers_same Webster a b c d h = h
powers_same Jefferson a b c d h = h

-- an inequality of quotients in these parts: P by the votes, X by the seats of both
pub parts_of : (method : Divisor) (x y a b : ℕ) → AtMost (quotient method x a) (quotient method y b) →
    power method x * (factor method a * below method b) ≤ power method y * (factor method b * below method a)
parts_of method x y a b h =
    let h' : power method x * factor method a * below method b ≤ power method y * factor method b * below method a =
    subst (λ n. n ≤ power method y * factor method b * below method a) (λ i. num_is method x a i * den_is method y b i)
    (subst (λ n. (quotient method x a).num * (quotient method y b).den ≤ n) (λ i. num_is method y b i * den_is method x a i) h) in
    omega (arith, h')

pub of_parts : (method : Divisor) (x y a b : ℕ) →
    power method x * (factor method a * below method b) ≤ power method y * (factor method b * below method a) →
    AtMost (quotient method x a) (quotient method y b)
of_parts method x y a b h =
    let h' : power method x * factor method a * below method b ≤ power method y * factor method b * below method a = omega (arith, h) in
    let l : (quotient method x a).num * (quotient method y b).den ≡ power method x * factor method a * below method b =
    λ i. num_is method x a i * den_is method y b i in
    let r : (quotient method y b).num * (quotient method x a).den ≡ power method y * factor method b * below method a =
    λ i. num_is method y b i * den_is method x a i in
    subst (λ n. n ≤ (quotient method y b).num * (quotient method x a).den) (sym l)
    (subst (λ n. power method x * factor method a * below method b ≤ n) (sym r) h')

pos_product : (a b : ℕ) → 0 < a → 0 < b → 0 < a * b
pos_product a b h k = mul-lt 0 0 a b h k

cross_left : (a b c d : ℕ) → a * b < c * d → 0 < d
cross_left a b c zero h = absurd (omega arith)
cross_left a b c (suc d) h = omega arith

cross_right : (a b c d : ℕ) → a * b < c * d → 0 < c
cross_right a b zero d h = absurd (omega arith)
cross_right a b (suc c) d h = omega arith

clash : (vi vj wi wj x y : ℕ) → vj * x ≤ vi * y → wi * y ≤ wj * x → vi * wj < wi * vj → 0 < x → ⊥
clash vi vj wi wj x zero h k less pos =
    let p : 0 < vj * x = pos_product vj x (cross_left vi wj wi vj less) pos in omega (arith, h, p)
clash vi vj wi wj x (suc y) h k less pos =
    let p : 0 < x * suc y = pos_product x (suc y) pos (omega arith) in
    let both : vj * x * (wi * suc y) ≤ vi * suc y * (wj * x) = mul-le (vj * x) (wi * suc y) (vi * suc y) (wj * x) h k in
    let apart : vi * wj * (x * suc y) < wi * vj * (x * suc y) = mul-lt-mul_of_pos_right less p in
    omega (arith, both, apart)

-- of equal factors, one inequality turns the other
turned : (vi vj wi wj x y : ℕ) → 0 < wi → vi * wj ≡ wi * vj → wi * y ≤ wj * x → vi * y ≤ vj * x
turned vi vj wi wj x y pos e k =
    let up : vi * (wi * y) ≤ vi * (wj * x) = mul-le-mul_left vi k in
    let swap : vi * wj * x ≡ wi * vj * x = λ i. e i * x in
    le_of_mul-le-mul_left {m = vi * y} {n = vj * x} {k = wi} (omega (arith, up, swap)) pos

module _ (method : Divisor) (v w m : List ℕ) (seats house : ℕ) (s t : List ℕ)
    (hs : IsDivisorAllocation method v m seats s) (ht : IsDivisorAllocation method w m house t)
    (i j : ℕ) (lost : get_or t i 0 < get_or s i 0) (more : get_or s j 0 < get_or t j 0) where
  above_i : get_or m i 0 < get_or s i 0
  above_i = let mi = ht.minima i in omega (arith, mi, lost)

  above_j : get_or m j 0 < get_or t j 0
  above_j = let mj = hs.minima j in omega (arith, mj, more)

  vi : InField v i
  vi = in_field method v m seats s hs i above_i

  wj : InField w j
  wj = in_field method w m house t ht j above_j

  -- next of j in s ≤ last of i in s ≤ what i had as its next with its seats in t
  first : InField v j → AtMost (quotient method (get_or v j 0) (get_or s j 0)) (quotient method (get_or v i 0) (get_or t i 0))
  first vj =
      AtMost-trans (quotient method (get_or v j 0) (get_or s j 0)) (quotient method (get_or v i 0) (get_or s i 0 - 1)) (quotient method (get_or v i 0) (get_or t i 0))
      (quotient_positive method (get_or v i 0) (get_or s i 0 - 1) vi) (hs.min_max i j vi vj above_i)
      (falls_weak method v i (get_or t i 0) (get_or s i 0 - 1) vi (omega (arith, lost)))

  second : InField w i → AtMost (quotient method (get_or w i 0) (get_or t i 0)) (quotient method (get_or w j 0) (get_or s j 0))
  second wi =
      AtMost-trans (quotient method (get_or w i 0) (get_or t i 0)) (quotient method (get_or w j 0) (get_or t j 0 - 1)) (quotient method (get_or w j 0) (get_or s j 0))
      (quotient_positive method (get_or w j 0) (get_or t j 0 - 1) wj) (ht.min_max j i wj wi above_j)
      (falls_weak method w j (get_or s j 0) (get_or t j 0 - 1) wj (omega (arith, more)))

  abbrev x : ℕ
  x = factor method (get_or s j 0) * below method (get_or t i 0)

  abbrev y : ℕ
  y = factor method (get_or t i 0) * below method (get_or s j 0)

  no_such : 0 < below method (get_or t i 0) → get_or v i 0 * get_or w j 0 < get_or w i 0 * get_or v j 0 → ⊥
  no_such finite less =
      let vj : InField v j = cross_left (get_or v i 0) (get_or w j 0) (get_or w i 0) (get_or v j 0) less in
      let wi : InField w i = cross_right (get_or v i 0) (get_or w j 0) (get_or w i 0) (get_or v j 0) less in
      clash (power method (get_or v i 0)) (power method (get_or v j 0)) (power method (get_or w i 0)) (power method (get_or w j 0)) x y
      (parts_of method (get_or v j 0) (get_or v i 0) (get_or s j 0) (get_or t i 0) (first vj))
      (parts_of method (get_or w i 0) (get_or w j 0) (get_or t i 0) (get_or s j 0) (second wi))
      (powers_cross method (get_or v i 0) (get_or w j 0) (get_or w i 0) (get_or v j 0) less)
      (pos_product (factor method (get_or s j 0)) (below method (get_or t i 0)) (factor_positive method (get_or s j 0)) finite)

pub population_monotone : PopulationMonotone
population_monotone method v w m seats house s t hs ht i j less finite lost =
    elim (cases_lt (get_or s j 0) (get_or t j 0)) [
      | inr g ↦ g
      | inl more ↦ absurd (
          let some : 0 < below method (get_or t i 0) = omega (arith, finite, den_is method (get_or w i 0) (get_or t i 0)) in
          no_such method v w m seats house s t hs ht i j lost more some less)
    ]

module _ (method : Divisor) (v w m : List ℕ) (seats house : ℕ) (s t : List ℕ)
    (hs : IsDivisorAllocation method v m seats s) (ht : IsDivisorAllocation method w m house t)
    (i j : ℕ) (lost : get_or t i 0 < get_or s i 0) (more : get_or s j 0 < get_or t j 0)
    (same : get_or v i 0 * get_or w j 0 ≡ get_or w i 0 * get_or v j 0) (vj : InField v j) where
  fvi : InField v i
  fvi = vi method v w m seats house s t hs ht i j lost more

  fwj : InField w j
  fwj = wj method v w m seats house s t hs ht i j lost more

  ai : get_or m i 0 < get_or s i 0
  ai = above_i method v w m seats house s t hs ht i j lost more

  aj : get_or m j 0 < get_or t j 0
  aj = above_j method v w m seats house s t hs ht i j lost more

  fwi : InField w i
  fwi = let p : 0 < get_or v i 0 * get_or w j 0 = pos_product (get_or v i 0) (get_or w j 0) fvi fwj in
      cross_right 0 0 (get_or w i 0) (get_or v j 0) (omega (arith, p, same))

  apart : i ≢ j
  apart e = let more' = subst (λ k. get_or s k 0 < get_or t k 0) (sym e) more in omega (arith, more', lost)

  powers : power method (get_or v i 0) * power method (get_or w j 0) ≡ power method (get_or w i 0) * power method (get_or v j 0)
  powers = powers_same method (get_or v i 0) (get_or w j 0) (get_or w i 0) (get_or v j 0) same

  one : AtMost (quotient method (get_or v j 0) (get_or s j 0)) (quotient method (get_or v i 0) (get_or t i 0))
  one = first method v w m seats house s t hs ht i j lost more vj

  two : AtMost (quotient method (get_or w i 0) (get_or t i 0)) (quotient method (get_or w j 0) (get_or s j 0))
  two = second method v w m seats house s t hs ht i j lost more fwi

  one_back : AtMost (quotient method (get_or v i 0) (get_or t i 0)) (quotient method (get_or v j 0) (get_or s j 0))
  one_back =
      of_parts method (get_or v i 0) (get_or v j 0) (get_or t i 0) (get_or s j 0)
      (turned (power method (get_or v i 0)) (power method (get_or v j 0)) (power method (get_or w i 0)) (power method (get_or w j 0))
      (factor method (get_or s j 0) * below method (get_or t i 0)) (factor method (get_or t i 0) * below method (get_or s j 0))
      (power_positive method (get_or w i 0) fwi) powers
      (parts_of method (get_or w i 0) (get_or w j 0) (get_or t i 0) (get_or s j 0) two))

  two_back : AtMost (quotient method (get_or w j 0) (get_or s j 0)) (quotient method (get_or w i 0) (get_or t i 0))
  two_back =
      of_parts method (get_or w j 0) (get_or w i 0) (get_or s j 0) (get_or t i 0)
      (turned (power method (get_or w j 0)) (power method (get_or w i 0)) (power method (get_or v j 0)) (power method (get_or v i 0))
      (factor method (get_or t i 0) * below method (get_or s j 0)) (factor method (get_or s j 0) * below method (get_or t i 0))
      (power_positive method (get_or v j 0) vj) (let p = powers in omega (arith, p))
      (parts_of method (get_or v j 0) (get_or v i 0) (get_or s j 0) (get_or t i 0) one))

  -- last of i in s ≤ next of j in s, and last of j in t ≤ next of i in t
  worth_v : AtMost (quotient method (get_or v i 0) (get_or s i 0 - 1)) (quotient method (get_or v j 0) (get_or s j 0))
  worth_v =
      AtMost-trans (quotient method (get_or v i 0) (get_or s i 0 - 1)) (quotient method (get_or v i 0) (get_or t i 0)) (quotient method (get_or v j 0) (get_or s j 0))
      (quotient_positive method (get_or v i 0) (get_or t i 0) fvi) (falls_weak method v i (get_or t i 0) (get_or s i 0 - 1) fvi (omega (arith, lost))) one_back

  worth_w : AtMost (quotient method (get_or w j 0) (get_or t j 0 - 1)) (quotient method (get_or w i 0) (get_or t i 0))
  worth_w =
      AtMost-trans (quotient method (get_or w j 0) (get_or t j 0 - 1)) (quotient method (get_or w j 0) (get_or s j 0)) (quotient method (get_or w i 0) (get_or t i 0))
      (quotient_positive method (get_or w j 0) (get_or s j 0) fwj) (falls_weak method w j (get_or s j 0) (get_or t j 0 - 1) fwj (omega (arith, more))) two_back

  one_lost : get_or s i 0 ≡ get_or t i 0 + 1
  one_lost =
      elim (cases_lt (get_or t i 0) (get_or s i 0 - 1)) [
        | inr g ↦ omega (arith, g, lost)
        | inl far ↦ absurd (
            let strict = falls_strict method v i (get_or t i 0) (get_or s i 0 - 1) fvi far in
            let back = AtMost-trans (quotient method (get_or v i 0) (get_or t i 0)) (quotient method (get_or v j 0) (get_or s j 0)) (quotient method (get_or v i 0) (get_or s i 0 - 1))
            (quotient_positive method (get_or v j 0) (get_or s j 0) vj) one_back (hs.min_max i j fvi vj ai) in
            omega (arith, strict, back))
      ]

  one_more : get_or t j 0 ≡ get_or s j 0 + 1
  one_more =
      elim (cases_lt (get_or s j 0) (get_or t j 0 - 1)) [
        | inr g ↦ omega (arith, g, more)
        | inl far ↦ absurd (
            let strict = falls_strict method w j (get_or s j 0) (get_or t j 0 - 1) fwj far in
            let back = AtMost-trans (quotient method (get_or w j 0) (get_or s j 0)) (quotient method (get_or w i 0) (get_or t i 0)) (quotient method (get_or w j 0) (get_or t j 0 - 1))
            (quotient_positive method (get_or w i 0) (get_or t i 0) fwi) two_back (ht.min_max j i fwj fwi aj) in
            omega (arith, strict, back))
      ]

pub same_factor : SameFactor
same_factor method v w m seats house s t hs ht i j same lost more =
    let fi = vi method v w m seats house s t hs ht i j lost more in
    let fj = wj method v w m seats house s t hs ht i j lost more in
    let p : 0 < get_or v i 0 * get_or w j 0 = pos_product (get_or v i 0) (get_or w j 0) fi fj in
    let vj : InField v j = cross_left 0 0 (get_or w i 0) (get_or v j 0) (omega (arith, p, same)) in
    let ne = apart method v w m seats house s t hs ht i j lost more same vj in
    let ai' = ai method v w m seats house s t hs ht i j lost more same vj in
    let aj' = aj method v w m seats house s t hs ht i j lost more same vj in
    let wi' = fwi method v w m seats house s t hs ht i j lost more same vj in
    let worth = worth_v method v w m seats house s t hs ht i j lost more same vj in
    let worth' = worth_w method v w m seats house s t hs ht i j lost more same vj in (
      one_lost method v w m seats house s t hs ht i j lost more same vj,
      one_more method v w m seats house s t hs ht i j lost more same vj,
      holder_tied method v m seats s hs i j ne ai' vj worth,
      taker_tied method v m seats s hs i j ne ai' vj worth,
      taker_tied method w m house t ht j i (λ e. ne (sym e)) aj' wi' worth',
      holder_tied method w m house t ht j i (λ e. ne (sym e)) aj' wi' worth',
    )

-- the absolute form is a case of the relative one
pub absolutely_monotone : AbsolutelyMonotone
absolutely_monotone method v w m seats house s t hs ht i j gain no_gain finite lost =
    elim (cases_lt 0 (get_or v j 0)) [
      | inl vj ↦
          (let one : get_or v i 0 * get_or w j 0 ≤ get_or v i 0 * get_or v j 0 = mul-le-mul_left (get_or v i 0) no_gain in
          let two : get_or v i 0 * get_or v j 0 < get_or w i 0 * get_or v j 0 = mul-lt-mul_of_pos_right gain vj in
          population_monotone method v w m seats house s t hs ht i j (omega (arith, one, two)) finite lost)
      | inr none ↦
          (let z : get_or w j 0 ≡ 0 = omega (arith, none, no_gain) in
          let e = ht.outside j z in let low = hs.minima j in omega (arith, e, low))
    ]
