-- How far seats may be from a share under Webster: the inequalities of two entries, summed.
use Rattle.std.proofs.Common.{◌≡◌, ℕ, zero, suc, ◌+◌, ◌-◌, ◌*◌, ◌<◌, ◌≤◌, List, [], ◌∷◌, length, get_or, map, sum, inl, inr, arith, refl, sym, subst, ◌∙◌}
use Rattle.std.specs.Prelude.{nat_lt}
use Rattle.std.proofs.Math.Nat.{mul-le-mul_right}
use Rattle.std.proofs.lemmas.Bool.{cases_lt, lt-ltb}
use Rattle.std.proofs.lemmas.List.{length-map}
use Rattle.sl_base_quotients.specs.declared.method.Divisor.TheVariants.{Webster}
use Rattle.sl_law_meaning.specs.methods.Field.{InField, no_minima}
use Rattle.sl_law_meaning.specs.methods.Allocations.{IsDivisorAllocation}
use Rattle.sl_law_meaning.proofs.methods.SeatSums.{sum-cons, none_needed, entry_le_sum}
use Rattle.sl_law_meaning.proofs.methods.DivisorProofs.{in_range}
use Rattle.sl_law_meaning.proofs.methods.HamiltonProofs.{at_map, sum_times}
use Rattle.sl_law_fairness.specs.NearQuota.{in_field, WebsterDeviation}
use Rattle.sl_law_fairness.proofs.Chains.{in_field as in_the_field}
use Rattle.sl_law_fairness.proofs.ClosedHouse.{count_no, count_yes}
use Rattle.sl_law_fairness.proofs.Sums.{sum_gap, times_none}

-- two lists, number by number
abbrev plus : List ℕ → List ℕ → List ℕ
plus [] ys = ys
plus (x ∷ xs) [] = x ∷ xs
plus (x ∷ xs) (y ∷ ys) = (x + y) ∷ plus xs ys

at_plus : (xs ys : List ℕ) (i : ℕ) → get_or (plus xs ys) i 0 ≡ get_or xs i 0 + get_or ys i 0
at_plus [] ys i = omega arith
at_plus (x ∷ xs) [] zero = omega arith
at_plus (x ∷ xs) [] (suc i) = omega arith
at_plus (x ∷ xs) (y ∷ ys) zero = refl
at_plus (x ∷ xs) (y ∷ ys) (suc i) = at_plus xs ys i

sum_plus : (xs ys : List ℕ) → sum (plus xs ys) ≡ sum xs + sum ys
sum_plus [] ys = omega arith
sum_plus (x ∷ xs) [] = omega arith
sum_plus (x ∷ xs) (y ∷ ys) = let a = sum-cons (x + y) (plus xs ys) in let b = sum-cons x xs in let c = sum-cons y ys in let d = sum_plus xs ys in omega (arith, a, b, c, d)

-- 1 for each entry with votes
abbrev mark : ℕ → ℕ
mark zero = 0
mark (suc n) = 1

abbrev marks : List ℕ → List ℕ
marks v = map mark v

sum_marks : (v : List ℕ) → sum (marks v) ≡ in_field v
sum_marks [] = refl
sum_marks (zero ∷ xs) =
    let rest = sum_marks xs in
    let a = sum-cons 0 (marks xs) in
    let c : in_field (zero ∷ xs) ≡ in_field xs = count_no (λ x. nat_lt 0 x) zero xs refl in
    omega (arith, rest, a, c)
sum_marks (suc n ∷ xs) =
    let rest = sum_marks xs in
    let a = sum-cons 1 (marks xs) in
    let c : in_field (suc n ∷ xs) ≡ in_field xs + 1 = count_yes (λ x. nat_lt 0 x) (suc n) xs (lt-ltb 0 (suc n) (omega arith)) in
    omega (arith, rest, a, c)

mark_one : (x : ℕ) → 0 < x → mark x ≡ 1
mark_one zero pos = absurd (omega (arith, pos))
mark_one (suc n) pos = refl

at_mark : (v : List ℕ) (j : ℕ) → 0 < get_or v j 0 → get_or (marks v) j 0 ≡ 1
at_mark v j f = at_map mark refl v j ∙ mark_one (get_or v j 0) f

-- sums of inequalities with two terms above
summed : (a b c : ℕ) (xs ys zs : List ℕ) (i gap : ℕ) → i < length xs → ((j : ℕ) → a * get_or xs j 0 ≤ b * get_or ys j 0 + c * get_or zs j 0) →
    a * get_or xs i 0 + gap ≤ b * get_or ys i 0 + c * get_or zs i 0 → a * sum xs + gap ≤ b * sum ys + c * sum zs
summed a b c xs ys zs i gap within weak wide =
    let L = map (λ x. a * x) xs in
    let Y = map (λ y. b * y) ys in
    let Z = map (λ z. c * z) zs in
    let atL : (j : ℕ) → get_or L j 0 ≡ a * get_or xs j 0 = at_map (λ x. a * x) (omega arith) xs in
    let atY : (j : ℕ) → get_or Y j 0 ≡ b * get_or ys j 0 = at_map (λ y. b * y) (omega arith) ys in
    let atZ : (j : ℕ) → get_or Z j 0 ≡ c * get_or zs j 0 = at_map (λ z. c * z) (omega arith) zs in
    let same = length-map xs (λ x. a * x) in
    let each : (j : ℕ) → get_or L j 0 ≤ get_or (plus Y Z) j 0 = λ j. let x = atL j in let y = atY j in let z = atZ j in let p = at_plus Y Z j in let le = weak j in omega (arith, x, y, z, p, le) in
    let here : get_or L i 0 + gap ≤ get_or (plus Y Z) i 0 = let x = atL i in let y = atY i in let z = atZ i in let p = at_plus Y Z i in omega (arith, x, y, z, p, wide) in
    let all = sum_gap L (plus Y Z) i gap (omega (arith, same, within)) each here in
    let eL = sum_times a xs in
    let eY = sum_times b ys in
    let eZ = sum_times c zs in
    let p = sum_plus Y Z in
    omega (arith, all, eL, eY, eZ, p)

module _ (v : List ℕ) (seats : ℕ) (s : List ℕ) (h : IsDivisorAllocation Webster v (no_minima v) seats s) (i : ℕ) (fi : InField v i) where
  -- the last claim of i against the next one of j
  lost : (k : ℕ) → get_or s i 0 ≡ suc k → (j : ℕ) → (2 * k + 1) * get_or v j 0 ≤ 2 * get_or v i 0 * get_or s j 0 + get_or v i 0 * get_or (marks v) j 0
  lost k e j =
      elim (cases_lt 0 (get_or v j 0)) [
        | inr g ↦ times_none (2 * k + 1) (get_or v j 0) (2 * get_or v i 0 * get_or s j 0 + get_or v i 0 * get_or (marks v) j 0) g
        | inl fj ↦
            (let z = none_needed (length v) i in
            let fair : 2 * get_or v j 0 * (2 * (get_or s i 0 - 1) + 1) ≤ 2 * get_or v i 0 * (2 * get_or s j 0 + 1) = h.min_max i j fi fj (omega (arith, z, e)) in
            let e' : get_or s i 0 - 1 ≡ k = omega (arith, e) in
            let fair' = subst (λ n. 2 * get_or v j 0 * (2 * n + 1) ≤ 2 * get_or v i 0 * (2 * get_or s j 0 + 1)) e' fair in
            subst (λ n. (2 * k + 1) * get_or v j 0 ≤ 2 * get_or v i 0 * get_or s j 0 + get_or v i 0 * n) (sym (at_mark v j fj)) (omega (arith, fair')))
      ]

  -- the last claim of j against the next one of i
  won : (j : ℕ) → 2 * get_or v i 0 * get_or s j 0 ≤ (2 * get_or s i 0 + 1) * get_or v j 0 + get_or v i 0 * get_or (marks v) j 0
  won j = by_seats (get_or s j 0) refl
    where
      by_seats : (n : ℕ) → get_or s j 0 ≡ n → 2 * get_or v i 0 * get_or s j 0 ≤ (2 * get_or s i 0 + 1) * get_or v j 0 + get_or v i 0 * get_or (marks v) j 0
      by_seats zero e = times_none (2 * get_or v i 0) (get_or s j 0) ((2 * get_or s i 0 + 1) * get_or v j 0 + get_or v i 0 * get_or (marks v) j 0) (omega (arith, e))
      by_seats (suc l) e =
          let z = none_needed (length v) j in
          let over : get_or (no_minima v) j 0 < get_or s j 0 = omega (arith, z, e) in
          let fj = in_the_field Webster v (no_minima v) seats s h j over in
          let fair : 2 * get_or v i 0 * (2 * (get_or s j 0 - 1) + 1) ≤ 2 * get_or v j 0 * (2 * get_or s i 0 + 1) = h.min_max j i fj fi over in
          let e' : get_or s j 0 - 1 ≡ l = omega (arith, e) in
          let fair' = subst (λ n. 2 * get_or v i 0 * (2 * n + 1) ≤ 2 * get_or v j 0 * (2 * get_or s i 0 + 1)) e' fair in
          subst (λ n. 2 * get_or v i 0 * get_or s j 0 ≤ (2 * get_or s i 0 + 1) * get_or v j 0 + get_or v i 0 * n) (sym (at_mark v j fj))
          (subst (λ n. 2 * get_or v i 0 * n ≤ (2 * get_or s i 0 + 1) * get_or v j 0 + get_or v i 0 * 1) (sym e) (omega (arith, fair')))

  not_more : 2 * (sum v * get_or s i 0) + 2 * get_or v i 0 ≤ 2 * (seats * get_or v i 0) + sum v + in_field v * get_or v i 0
  not_more = by_seats (get_or s i 0) refl
    where
      by_seats : (n : ℕ) → get_or s i 0 ≡ n → 2 * (sum v * get_or s i 0) + 2 * get_or v i 0 ≤ 2 * (seats * get_or v i 0) + sum v + in_field v * get_or v i 0
      by_seats zero e =
          let all = entry_le_sum v i in
          let some = entry_le_sum (marks v) i in
          let one = at_mark v i fi in
          let n = sum_marks v in
          let pos : 1 ≤ in_field v = omega (arith, some, one, n) in
          let up : 1 * get_or v i 0 ≤ in_field v * get_or v i 0 = mul-le-mul_right (get_or v i 0) pos in
          subst (λ k. 2 * (sum v * k) + 2 * get_or v i 0 ≤ 2 * (seats * get_or v i 0) + sum v + in_field v * get_or v i 0) (sym e) (omega (arith, all, up))
      by_seats (suc k) e =
          let one = at_mark v i fi in
          let here : (2 * k + 1) * get_or v i 0 + 2 * get_or v i 0 ≤ 2 * get_or v i 0 * get_or s i 0 + get_or v i 0 * get_or (marks v) i 0 =
          subst (λ n. (2 * k + 1) * get_or v i 0 + 2 * get_or v i 0 ≤ 2 * get_or v i 0 * n + get_or v i 0 * get_or (marks v) i 0) (sym e)
          (subst (λ n. (2 * k + 1) * get_or v i 0 + 2 * get_or v i 0 ≤ 2 * get_or v i 0 * suc k + get_or v i 0 * n) (sym one) (omega arith)) in
          let total = summed (2 * k + 1) (2 * get_or v i 0) (get_or v i 0) v s (marks v) i (2 * get_or v i 0) (in_range v i fi) (lost k e) here in
          let total' = subst (λ n. (2 * k + 1) * sum v + 2 * get_or v i 0 ≤ 2 * get_or v i 0 * n + get_or v i 0 * sum (marks v)) h.total total in
          let total'' = subst (λ n. (2 * k + 1) * sum v + 2 * get_or v i 0 ≤ 2 * get_or v i 0 * seats + get_or v i 0 * n) (sum_marks v) total' in
          subst (λ n. 2 * (sum v * n) + 2 * get_or v i 0 ≤ 2 * (seats * get_or v i 0) + sum v + in_field v * get_or v i 0) (sym e) (omega (arith, total''))

  not_less : 2 * (seats * get_or v i 0) + 2 * get_or v i 0 ≤ 2 * (sum v * get_or s i 0) + sum v + in_field v * get_or v i 0
  not_less =
      let one = at_mark v i fi in
      let here : 2 * get_or v i 0 * get_or s i 0 + 2 * get_or v i 0 ≤ (2 * get_or s i 0 + 1) * get_or v i 0 + get_or v i 0 * get_or (marks v) i 0 =
      subst (λ n. 2 * get_or v i 0 * get_or s i 0 + 2 * get_or v i 0 ≤ (2 * get_or s i 0 + 1) * get_or v i 0 + get_or v i 0 * n) (sym one) (omega arith) in
      let l = in_range v i fi in
      let total = summed (2 * get_or v i 0) (2 * get_or s i 0 + 1) (get_or v i 0) s v (marks v) i (2 * get_or v i 0) (omega (arith, l, h.same_length)) won here in
      let total' = subst (λ n. 2 * get_or v i 0 * n + 2 * get_or v i 0 ≤ (2 * get_or s i 0 + 1) * sum v + get_or v i 0 * sum (marks v)) h.total total in
      let total'' = subst (λ n. 2 * get_or v i 0 * seats + 2 * get_or v i 0 ≤ (2 * get_or s i 0 + 1) * sum v + get_or v i 0 * n) (sum_marks v) total' in
      omega (arith, total'')

pub webster_deviation : WebsterDeviation
webster_deviation v seats s h i fi = (not_more v seats s h i fi, not_less v seats s h i fi)
