-- Where each last claim beyond a minimum is above each next one, the seats are the only allocation.
use Rattle.std.proofs.Common.{◌≡◌, ℕ, ◌-◌, ◌<◌, ◌≤◌, List, get_or, sum, inl, inr, arith}
use Rattle.std.proofs.lemmas.Bool.{cases_lt}
use Rattle.sl_base_quotients.specs.declared.method.Divisor.{Divisor}
use Rattle.sl_base_quotients.specs.Quotient.{AtMost, Below, quotient}
use Rattle.sl_base_quotients.specs.inner.QuotientLaws.{quotient_positive}
use Rattle.sl_base_quotients.proofs.Order.{AtMost-trans, Below-AtMost, Below-AtMost_weak, Below-irrefl}
use Rattle.sl_law_meaning.specs.methods.Field.{InField}
use Rattle.sl_law_meaning.specs.methods.Allocations.{IsDivisorAllocation}
use Rattle.sl_law_meaning.proofs.methods.SeatSums.{some_greater}
use Rattle.sl_law_fairness.specs.ByDivisor.{SeparatedIsOnly}
use Rattle.sl_law_fairness.proofs.Chains.{falls_weak, in_field}

module _ (method : Divisor) (v m : List ℕ) (seats : ℕ) (s : List ℕ) (total : sum s ≡ seats) (minima : (i : ℕ) → get_or m i 0 ≤ get_or s i 0)
    (has_votes : (i : ℕ) → get_or m i 0 < get_or s i 0 → InField v i)
    (above : (i j : ℕ) → get_or m i 0 < get_or s i 0 → InField v j → Below (quotient method (get_or v j 0) (get_or s j 0)) (quotient method (get_or v i 0) (get_or s i 0 - 1)))
    (t : List ℕ) (ht : IsDivisorAllocation method v m seats t) where
  never : (i j : ℕ) → get_or t i 0 < get_or s i 0 → get_or s j 0 < get_or t j 0 → ⊥
  never i j less more =
      let low = ht.minima i in
      let high = minima j in
      let over : get_or m i 0 < get_or s i 0 = omega (arith, low, less) in
      let up : get_or m j 0 < get_or t j 0 = omega (arith, high, more) in
      let fj : InField v j = in_field method v m seats t ht j up in
      let fi : InField v i = has_votes i over in
      let last = quotient method (get_or v i 0) (get_or s i 0 - 1) in
      let next = quotient method (get_or v j 0) (get_or s j 0) in
      let held = quotient method (get_or v i 0) (get_or t i 0) in
      let theirs = quotient method (get_or v j 0) (get_or t j 0 - 1) in
      let one : AtMost last held = falls_weak method v i (get_or t i 0) (get_or s i 0 - 1) fi (omega (arith, less)) in
      let two : AtMost held theirs = ht.min_max j i fj fi up in
      let three : AtMost theirs next = falls_weak method v j (get_or s j 0) (get_or t j 0 - 1) fj (omega (arith, more)) in
      let all : AtMost last next =
      AtMost-trans last held next (quotient_positive method (get_or v i 0) (get_or t i 0) fi) one
      (AtMost-trans held theirs next (quotient_positive method (get_or v j 0) (get_or t j 0 - 1) fj) two three) in
      Below-irrefl next (Below-AtMost next last next (quotient_positive method (get_or v j 0) (get_or s j 0) fj) (above i j over fj) all)

  pub only : (i : ℕ) → get_or t i 0 ≡ get_or s i 0
  only i =
      elim (cases_lt (get_or t i 0) (get_or s i 0)) [
        | inl less ↦ absurd (let j = some_greater s t i (let e = ht.total in omega (arith, e, total)) less in never i j.0 less j.1)
        | inr ge ↦ elim (cases_lt (get_or s i 0) (get_or t i 0)) [
          | inl more ↦ absurd (let j = some_greater t s i (let e = ht.total in omega (arith, e, total)) more in never j.0 i j.1 more)
          | inr le ↦ omega (arith, ge, le)
        ]
      ]

-- by one divisor
pub separated_is_only : SeparatedIsOnly
separated_is_only method v m seats s d pos long total minima outside above_next below_last =
    let votes : (i : ℕ) → get_or m i 0 < get_or s i 0 → InField v i = λ i over.
    elim (cases_lt 0 (get_or v i 0)) [ inl f ↦ f | inr g ↦ absurd (let z : get_or v i 0 ≡ 0 = omega (arith, g) in let e = outside i z in omega (arith, e, over)) ] in
    let above : (i j : ℕ) → get_or m i 0 < get_or s i 0 → InField v j → Below (quotient method (get_or v j 0) (get_or s j 0)) (quotient method (get_or v i 0) (get_or s i 0 - 1)) = λ i j over fj.
    let fi = votes i over in
    let q = quotient method (get_or v i 0) (get_or s i 0 - 1) in
    Below-AtMost (quotient method (get_or v j 0) (get_or s j 0)) d q (quotient_positive method (get_or v i 0) (get_or s i 0 - 1) fi) (above_next j fj)
    (Below-AtMost_weak d q (below_last i fi over)) in (
      record {
        same_length = long;
        total = total;
        minima = minima;
        outside = outside;
        min_max = λ i j fi fj over. Below-AtMost_weak (quotient method (get_or v j 0) (get_or s j 0)) (quotient method (get_or v i 0) (get_or s i 0 - 1)) (above i j over fj);
      },
      only method v m seats s total minima votes above,
    )
