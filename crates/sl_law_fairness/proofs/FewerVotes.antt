-- Were it not so, the entry's last seat by v would be worth what the other's next one is, so it could lose it by a lot.
use Rattle.std.proofs.Common.{◌≡◌, ◌≢◌, ℕ, ◌-◌, ◌<◌, ◌≤◌, List, length, get_or, slice_index, inl, inr, arith, sym, subst}
use Rattle.std.proofs.lemmas.Bool.{cases_lt}
use Rattle.sl_base_quotients.specs.declared.method.Divisor.{Divisor}
use Rattle.sl_base_quotients.specs.Quotient.{AtMost, Below, quotient}
use Rattle.sl_base_quotients.specs.inner.QuotientLaws.{quotient_positive}
use Rattle.sl_base_quotients.proofs.Order.{AtMost-trans, Below-AtMost, Below-irrefl}
use Rattle.sl_law_meaning.specs.methods.Field.{InField, no_minima}
use Rattle.sl_law_meaning.specs.methods.Allocations.{IsDivisorAllocation}
use Rattle.sl_law_meaning.proofs.methods.SeatSums.{none_needed, length_zeros, sum_zeros, some_greater}
use Rattle.sl_law_meaning.proofs.methods.DivisorProofs.{divisor_allocations}
use Rattle.sl_law_fairness.proofs.Chains.{falls_weak, falls_strict, rises_weak, in_field}
use Rattle.sl_law_fairness.proofs.Moves.{other}

-- where each allocation by the votes v gives i more than so many seats, each one by w does, in which others may have fewer votes, or none
abbrev pub CertainAgainstFewer : Type 0
CertainAgainstFewer =
    (method : Divisor) (v w : List ℕ) (seats i most : ℕ) →
    length w ≡ length v → slice_index w i ≡ slice_index v i → ((j : ℕ) → slice_index w j ≤ slice_index v j) →
    ((s : List ℕ) → IsDivisorAllocation method v (no_minima v) seats s → most < slice_index s i) →
    (t : List ℕ) → IsDivisorAllocation method w (no_minima w) seats t → most < slice_index t i

module _ (method : Divisor) (v w : List ℕ) (seats i most : ℕ) (long : length w ≡ length v) (same : get_or w i 0 ≡ get_or v i 0)
    (fewer : (j : ℕ) → get_or w j 0 ≤ get_or v j 0) (certain : (s : List ℕ) → IsDivisorAllocation method v (no_minima v) seats s → most < get_or s i 0)
    (t : List ℕ) (ht : IsDivisorAllocation method w (no_minima w) seats t) where
  some : (s : List ℕ) × IsDivisorAllocation method v (no_minima v) seats s
  some =
      let can = (divisor_allocations method w (no_minima w) seats (length_zeros (length w))).0.0 (t, ht) in
      let zw = sum_zeros (length w) in
      let zv = sum_zeros (length v) in
      (divisor_allocations method v (no_minima v) seats (length_zeros (length v))).0.1
      (omega (arith, zv), λ empty. let none = can.1 (λ j f. empty j (let up = fewer j in omega (arith, f, up))) in omega (arith, none, zw, zv))

  module _ (s : List ℕ) (hs : IsDivisorAllocation method v (no_minima v) seats s) (few : get_or t i 0 ≤ most) where
    less : get_or t i 0 < get_or s i 0
    less = let l = certain s hs in omega (arith, l, few)

    taker : (j : ℕ) × (get_or s j 0 < get_or t j 0)
    taker = some_greater s t i (let a = hs.total in let b = ht.total in omega (arith, a, b)) less

    no_such : (j : ℕ) → get_or s j 0 < get_or t j 0 → ⊥
    no_such j more =
        let l = less in
        let zi = none_needed (length v) i in
        let zj = none_needed (length w) j in
        let above : get_or (no_minima v) i 0 < get_or s i 0 = omega (arith, zi, l) in
        let above_j : get_or (no_minima w) j 0 < get_or t j 0 = omega (arith, zj, more) in
        let fi : InField v i = in_field method v (no_minima v) seats s hs i above in
        let wj : InField w j = in_field method w (no_minima w) seats t ht j above_j in
        let fj : InField v j = (let up = fewer j in omega (arith, wj, up)) in
        let wi : InField w i = omega (arith, fi, same) in
        let ne : i ≢ j = (λ e. let more' = subst (λ k. get_or s k 0 < get_or t k 0) (sym e) more in omega (arith, more', l)) in
        let last = quotient method (get_or v i 0) (get_or s i 0 - 1) in
        let held = quotient method (get_or v i 0) (get_or t i 0) in
        let next = quotient method (get_or v j 0) (get_or s j 0) in
        let theirs = quotient method (get_or v j 0) (get_or t j 0 - 1) in
        let mid = quotient method (get_or w j 0) (get_or t j 0 - 1) in
        let one : AtMost next last = hs.min_max i j fi fj above in
        let two : AtMost last held = falls_weak method v i (get_or t i 0) (get_or s i 0 - 1) fi (omega (arith, l)) in
        let three : AtMost held mid = subst (λ n. AtMost (quotient method n (get_or t i 0)) mid) same (ht.min_max j i wj wi above_j) in
        let four : AtMost mid theirs = rises_weak method (get_or w j 0) (get_or v j 0) (get_or t j 0 - 1) (fewer j) in
        let five : AtMost theirs next = falls_weak method v j (get_or s j 0) (get_or t j 0 - 1) fj (omega (arith, more)) in
        let up : AtMost held next =
        AtMost-trans held mid next (quotient_positive method (get_or w j 0) (get_or t j 0 - 1) wj) three
        (AtMost-trans mid theirs next (quotient_positive method (get_or v j 0) (get_or t j 0 - 1) fj) four five) in
        let worth : AtMost last next = AtMost-trans last held next (quotient_positive method (get_or v i 0) (get_or t i 0) fi) two up in
        let moved = other method v (no_minima v) seats s hs i j ne above fj worth in
        let still = certain moved.0 moved.1 in
        let down = moved.2 in
        elim (cases_lt (get_or t i 0) (get_or s i 0 - 1)) [
          | inr g ↦ omega (arith, g, still, down, few)
          | inl far ↦
              (let strict : Below last held = falls_strict method v i (get_or t i 0) (get_or s i 0 - 1) fi far in
              let back : AtMost held last = AtMost-trans held next last (quotient_positive method (get_or v j 0) (get_or s j 0) fj) up one in
              Below-irrefl last (Below-AtMost last held last (quotient_positive method (get_or v i 0) (get_or s i 0 - 1) fi) strict back))
        ]

pub certain_against_fewer : CertainAgainstFewer
certain_against_fewer method v w seats i most long same fewer certain t ht =
    elim (cases_lt most (get_or t i 0)) [
      | inl l ↦ l
      | inr few ↦ absurd (
          let x = some method v w seats i most long same fewer certain t ht in
          let j = taker method v w seats i most long same fewer certain t ht x.0 x.1 few in
          no_such method v w seats i most long same fewer certain t ht x.0 x.1 few j.0 j.1)
    ]
