-- A majority that is preferred: where its whole part is no more than half, it is raised first.
use Rattle.std.proofs.Common.{◌≡◌, ◌≢◌, ℕ, zero, suc, ◌+◌, ◌*◌, ◌<◌, ◌≤◌, Bool, true, false, List, [], ◌∷◌, get_or, sum, cond, inl, inr, arith, refl, ap, sym, subst}
use Rattle.std.specs.Prelude.{nat_lt, nat_le}
use Rattle.std.proofs.Math.Nat.{mul-le-mul_left, div-add-mod'}
use Rattle.std.proofs.lemmas.Bool.{cases_lt, cases_eq, cases_Bool, and_parts, and_from, ltb-true, lt-ltb, le-leb, true≢false}
use Rattle.sl_base_quotients.specs.Quotient.{AtMost}
use Rattle.sl_law_meaning.specs.methods.Field.{InField}
use Rattle.sl_law_meaning.specs.methods.Hamilton.{whole, remainder, is_leading, IsHamiltonAllocation}
use Rattle.sl_law_meaning.proofs.methods.SeatSums.{sum-cons, entry_le_sum}
use Rattle.sl_law_meaning.proofs.methods.DivisorProofs.{in_range}
use Rattle.sl_law_fairness.specs.Majorities.{HamiltonMajority}
use Rattle.sl_law_fairness.proofs.Sums.{times_none}
use Rattle.sl_law_fairness.proofs.Quota.{summed}

-- two entries have no more than all
pub two_entries : (v : List ℕ) (i j : ℕ) → i ≢ j → get_or v i 0 + get_or v j 0 ≤ sum v
two_entries [] i j ne = omega arith
two_entries (x ∷ xs) zero zero ne = absurd (ne refl)
two_entries (x ∷ xs) zero (suc j) ne = let le = entry_le_sum xs j in let c = sum-cons x xs in omega (arith, le, c)
two_entries (x ∷ xs) (suc i) zero ne = let le = entry_le_sum xs i in let c = sum-cons x xs in omega (arith, le, c)
two_entries (x ∷ xs) (suc i) (suc j) ne =
    let rest = two_entries xs i j (λ e. ne (ap (λ n. suc n) e)) in let c = sum-cons x xs in omega (arith, rest, c)

-- what leads ranks above what does not
not_above : (b c : Bool) (r q : ℕ) → b ≡ true → c ≡ false →
    AtMost (cond b (record { num = 1; den = 0 }) (record { num = r + 1; den = 1 })) (cond c (record { num = 1; den = 0 }) (record { num = q + 1; den = 1 })) →
    ⊥
not_above b true r q e f h = true≢false f
not_above false false r q e f h = true≢false (sym e)
not_above true false r q e f h = let l : 1 * 1 ≤ (q + 1) * 0 = h in omega (arith, l)

module _ (v : List ℕ) (seats : ℕ) (s : List ℕ) (h : IsHamiltonAllocation true v seats s) (i : ℕ) (more : sum v < 2 * get_or v i 0) where
  fi : InField v i
  fi = omega (arith, more)

  -- a share by its whole part and its remainder
  share : (j : ℕ) → sum v * whole v seats j + remainder v seats j ≡ seats * get_or v j 0
  share j = let parts = div-add-mod' (seats * get_or v j 0) (sum v) in omega (arith, parts)

  small : remainder v seats i < sum v
  small = let le = entry_le_sum v i in let f = fi in omega (arith, le, f)

  twice : seats * (sum v + 1) ≤ seats * (2 * get_or v i 0)
  twice = mul-le-mul_left seats (omega (arith, more))

  -- its whole part and one more are more than half
  raised_enough : 0 < seats → seats < 2 * (whole v seats i + 1)
  raised_enough some =
      elim (cases_lt seats (2 * (whole v seats i + 1))) [
        | inl l ↦ l
        | inr g ↦ absurd (
            let a : sum v * (2 * (whole v seats i + 1)) ≤ sum v * seats = mul-le-mul_left (sum v) g in
            let c = share i in let l = small in let t = twice in
            omega (arith, a, c, l, t, some))
      ]

  module _ (low : 2 * whole v seats i ≤ seats) (e : get_or s i 0 ≡ whole v seats i) where
    leads : is_leading v seats i ≡ true
    leads = and_from (nat_lt (sum v) (2 * get_or v i 0)) (nat_le (2 * whole v seats i) seats) (lt-ltb (sum v) (2 * get_or v i 0) more) (le-leb (2 * whole v seats i) seats low)

    other_not : (j : ℕ) → i ≢ j → is_leading v seats j ≡ false
    other_not j ne =
        elim (cases_Bool (is_leading v seats j)) [
          | inr no' ↦ no'
          | inl yes' ↦ absurd (
              let parts = and_parts (nat_lt (sum v) (2 * get_or v j 0)) (nat_le (2 * whole v seats j) seats) yes' in
              let half : sum v < 2 * get_or v j 0 = ltb-true (sum v) (2 * get_or v j 0) parts.0 in
              let two = two_entries v i j ne in
              omega (arith, half, two, more))
        ]

    -- so none is raised
    none_raised : (j : ℕ) → InField v j → get_or s j 0 ≡ whole v seats j
    none_raised j fj =
        elim (h.shares j fj) [
          | inl w ↦ w
          | inr r ↦ elim (cases_eq i j) [
            | inl same ↦ subst (λ k. get_or s k 0 ≡ whole v seats k) same e
            | inr ne ↦ absurd (not_above (is_leading v seats i) (is_leading v seats j) (remainder v seats i) (remainder v seats j) leads (other_not j ne)
                (h.largest j i fj fi r e))
          ]
        ]

    low_each : (j : ℕ) → sum v * get_or s j 0 ≤ seats * get_or v j 0
    low_each j =
        elim (cases_lt 0 (get_or v j 0)) [
          | inl fj ↦ (let c = share j in subst (λ n. sum v * n ≤ seats * get_or v j 0) (sym' j fj) (omega (arith, c)))
          | inr g ↦ (let z : get_or v j 0 ≡ 0 = omega arith in let n = h.outside j z in times_none (sum v) (get_or s j 0) (seats * get_or v j 0) (omega (arith, n)))
        ] where
          sym' : (k : ℕ) → InField v k → whole v seats k ≡ get_or s k 0
          sym' k f = let w = none_raised k f in omega (arith, w)

    -- and no share has a remainder
    exact : remainder v seats i ≤ 0
    exact =
        let c = share i in
        let same : whole v seats i ≡ get_or s i 0 = sym e in
        let plain : sum v * whole v seats i + remainder v seats i ≤ seats * get_or v i 0 = omega (arith, c) in
        let here = subst (λ n. sum v * n + remainder v seats i ≤ seats * get_or v i 0) same plain in
        let f = fi in
        let l = in_range v i f in
        let all = summed (sum v) seats s v i (remainder v seats i) (omega (arith, l, h.same_length)) low_each here in
        let all' = subst (λ n. sum v * n + remainder v seats i ≤ seats * sum v) h.total all in
        omega (arith, all')

    not_low : 0 < seats → ⊥
    not_low some =
        let a : sum v * (2 * whole v seats i) ≤ sum v * seats = mul-le-mul_left (sum v) low in
        let c = share i in let z = exact in let t = twice in
        omega (arith, a, c, z, t, some)

pub hamilton_majority : HamiltonMajority
hamilton_majority v seats s h i more some =
    elim (h.shares i (fi v seats s h i more)) [
      | inr e ↦ (let r = raised_enough v seats s h i more some in omega (arith, r, e))
      | inl e ↦ elim (cases_lt seats (2 * whole v seats i)) [
        | inl l ↦ omega (arith, l, e)
        | inr low ↦ absurd (not_low v seats s h i more low e some)
      ]
    ]
