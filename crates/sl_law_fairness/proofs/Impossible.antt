-- Two houses of seven seats in which a method within quota gives the last entry none and one; and the order of votes where entries are treated alike.
use Rattle.std.proofs.Common.{◌≡◌, ◌≢◌, ℕ, ◌+◌, ◌*◌, ◌<◌, ◌≤◌, List, [], ◌∷◌, length, get_or, set, sum, inl, inr, arith, ap, subst, ◌∙◌}
use Rattle.std.proofs.lemmas.Bool.{cases_lt}
use Rattle.std.proofs.lemmas.List.{length-set, get_or-set_same, get_or-set_other, get_or_past}
use Rattle.std.proofs.lemmas.Nat.{mul-lt}
use Rattle.sl_law_meaning.proofs.methods.DivisorProofs.{in_range}
use Rattle.sl_law_meaning.proofs.methods.SeatSums.{sum-cons, entry_le_sum}
use Rattle.sl_law_fairness.specs.Impossible.{StaysWithinQuota, KeepsOrder, IsPopulationMonotone, Impossibility, exchanged, TreatsAlike, ImpossibilityAlike}

sum_four : (xs : List ℕ) → length xs ≡ 4 → sum xs ≡ get_or xs 0 0 + get_or xs 1 0 + get_or xs 2 0 + get_or xs 3 0
sum_four [] e = absurd (omega arith)
sum_four (a ∷ []) e = absurd (omega arith)
sum_four (a ∷ b ∷ []) e = absurd (omega arith)
sum_four (a ∷ b ∷ c ∷ []) e = absurd (omega arith)
sum_four (a ∷ b ∷ c ∷ d ∷ []) e =
    let p = sum-cons a (b ∷ c ∷ d ∷ []) in let q = sum-cons b (c ∷ d ∷ []) in let r = sum-cons c (d ∷ []) in let t = sum-cons d [] in omega (arith, p, q, r, t)
sum_four (a ∷ b ∷ c ∷ d ∷ x ∷ xs) e = absurd (omega arith)

abbrev before : List ℕ
before = 662 ∷ 88 ∷ 88 ∷ 86 ∷ []

abbrev after : List ℕ
after = 526 ∷ 263 ∷ 67 ∷ 68 ∷ []

pub impossibility : Impossibility
impossibility f quota ordered grows =
    let p = quota before 7 (omega arith) in
    let q = quota after 7 (omega arith) in
    let a = f before 7 in
    let b = f after 7 in
    let sum_a = sum_four a p.0 in
    let sum_b = sum_four b q.0 in
    let total_a = p.1 in
    let total_b = q.1 in
    let a0 : 5 ≤ get_or a 0 0 = (p.2 0).0 in
    let b0 : get_or b 0 0 ≤ 4 = (q.2 0).1 in
    let b1 : get_or b 1 0 ≤ 2 = (q.2 1).1 in
    let a31 : get_or a 3 0 ≤ get_or a 1 0 = ordered before 7 1 3 (omega arith) in
    let a32 : get_or a 3 0 ≤ get_or a 2 0 = ordered before 7 2 3 (omega arith) in
    let b23 : get_or b 2 0 ≤ get_or b 3 0 = ordered after 7 3 2 (omega arith) in
    let moved : get_or b 3 0 ≤ get_or a 3 0 = grows before after 7 0 3 (omega arith) (omega (arith, a0, b0)) in
    omega (arith, sum_a, sum_b, total_a, total_b, a0, b0, b1, a31, a32, b23, moved)

-- ---- the order, where entries are treated alike

at_first : (xs : List ℕ) (i j : ℕ) → i ≢ j → i < length xs → get_or (exchanged xs i j) i 0 ≡ get_or xs j 0
at_first xs i j ne l = get_or-set_other (set xs i (get_or xs j 0)) j i (get_or xs i 0) 0 ne ∙ get_or-set_same xs i (get_or xs j 0) 0 l

at_second : (xs : List ℕ) (i j : ℕ) → j < length xs → get_or (exchanged xs i j) j 0 ≡ get_or xs i 0
at_second xs i j l =
    let long = length-set xs i (get_or xs j 0) in
    get_or-set_same (set xs i (get_or xs j 0)) j (get_or xs i 0) 0 (omega (arith, long, l))

alike_in_order : (f : List ℕ → ℕ → List ℕ) → StaysWithinQuota f → TreatsAlike f → IsPopulationMonotone f → KeepsOrder f
alike_in_order f quota alike grows v seats i j less =
    let all = entry_le_sum v i in
    let long = (quota v seats (omega (arith, all, less))).0 in
    elim (cases_lt (get_or (f v seats) i 0) (get_or (f v seats) j 0)) [
      | inr g ↦ g
      | inl more ↦ elim (cases_lt j (length v)) [
        | inr past ↦ absurd (let none = get_or_past (f v seats) j 0 (omega (arith, long, past)) in omega (arith, none, more))
        | inl lj ↦ absurd (
            let li : i < length v = in_range v i (omega (arith, less)) in
            let ne : i ≢ j = λ e. let l = subst (λ k. get_or v j 0 < get_or v k 0) e less in omega (arith, l) in
            let w = exchanged v i j in
            let wi = at_first v i j ne li in
            let wj = at_second v i j lj in
            let same = alike v seats i j li lj in
            let si = ap (λ xs. get_or xs i 0) same ∙ at_first (f v seats) i j ne (omega (arith, long, li)) in
            let sj = ap (λ xs. get_or xs j 0) same ∙ at_second (f v seats) i j (omega (arith, long, lj)) in
            let squares : get_or v j 0 * get_or v j 0 < get_or v i 0 * get_or v i 0 = mul-lt (get_or v j 0) (get_or v j 0) (get_or v i 0) (get_or v i 0) less less in
            let factor : get_or v j 0 * get_or w i 0 < get_or w j 0 * get_or v i 0 = rw (wi, wj) squares in
            let no_more : get_or (f w seats) i 0 ≤ get_or (f v seats) i 0 = grows v w seats j i factor (omega (arith, sj, more)) in
            omega (arith, si, no_more, more))
      ]
    ]

pub impossibility_alike : ImpossibilityAlike
impossibility_alike f quota alike grows = impossibility f quota (alike_in_order f quota alike grows) grows
