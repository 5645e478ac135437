-- One more seat.
use Rattle.std.proofs.Common.{◌≡◌, ℕ, ◌+◌, ◌-◌, ◌<◌, ◌≤◌, List, [], ◌∷◌, length, get_or, inl, inr, arith, sym, ◌∙◌, subst}
use Rattle.std.specs.Prelude.{Contains}
use Rattle.std.proofs.lemmas.Bool.{cases_eq}
use Rattle.sl_base_quotients.specs.declared.method.Divisor.{Divisor}
use Rattle.sl_base_quotients.specs.Quotient.{AtMost, quotient}
use Rattle.sl_base_quotients.specs.inner.QuotientLaws.{quotient_positive}
use Rattle.sl_base_quotients.proofs.Order.{AtMost-trans}
use Rattle.sl_law_meaning.specs.methods.Field.{InField, no_minima}
use Rattle.sl_law_meaning.specs.methods.Allocations.{IsDivisorAllocation}
use Rattle.sl_law_meaning.specs.laws.Ladders.{RaisesEach, divisor_ladders}
use Rattle.sl_law_meaning.proofs.methods.SeatSums.{length_zeros}
use Rattle.sl_law_meaning.proofs.methods.RaisedSeats.{raise, length-raise, sum-raise, Contains-cases, Contains-none, Contains-head}
use Rattle.sl_law_meaning.proofs.methods.LadderProofs.{raise_each}
use Rattle.sl_law_meaning.proofs.methods.ManyBatches.{cases_peer}
use Rattle.sl_law_meaning.proofs.methods.DivisorProofs.{falling, has_of, field_of, in_range}
use Rattle.sl_law_fairness.specs.Houses.{HouseMonotone}
use Rattle.sl_law_fairness.proofs.Chains.{falls_weak}

one_only : (i j : ℕ) → Contains (i ∷ []) j → i ≡ j
one_only i j c = elim (Contains-cases i [] j c) [ inl e ↦ e | inr none ↦ absurd (Contains-none j none) ]

module _ (method : Divisor) (v m : List ℕ) (seats : ℕ) (s : List ℕ) (h : IsDivisorAllocation method v m seats s)
    (i : ℕ) (fi : InField v i)
    (greatest : (j : ℕ) → InField v j → AtMost (quotient method (get_or v j 0) (get_or s j 0)) (quotient method (get_or v i 0) (get_or s i 0))) where
  within : (p : ℕ) → Contains (i ∷ []) p → p < length s
  within p c = let l = in_range v i fi in let e = one_only i p c in omega (arith, l, e, h.same_length)

  t : List ℕ
  t = raise s (i ∷ [])

  pub raised : RaisesEach (i ∷ []) s (raise s (i ∷ []))
  raised = raise_each s (i ∷ []) ((λ c. Contains-none i c), tt) within

  at : get_or (raise s (i ∷ [])) i 0 ≡ get_or s i 0 + 1
  at = raised.raised i (Contains-head i [])

  other : (j : ℕ) → (i ≡ j → ⊥) → get_or (raise s (i ∷ [])) j 0 ≡ get_or s j 0
  other j ne = raised.others j (λ c. ne (one_only i j c))

  up : (j : ℕ) → get_or s j 0 ≤ get_or (raise s (i ∷ [])) j 0
  up j = elim (cases_eq i j) [
    | inl e ↦ subst (λ k. get_or s k 0 ≤ get_or (raise s (i ∷ [])) k 0) e (omega (arith, at))
    | inr ne ↦ (let o = other j ne in omega (arith, o))
  ]

  -- a next quotient is at most the last one of an entry
  fair : (k j : ℕ) → InField v k → InField v j → get_or m k 0 < get_or (raise s (i ∷ [])) k 0 →
      AtMost (quotient method (get_or v j 0) (get_or s j 0)) (quotient method (get_or v k 0) (get_or (raise s (i ∷ [])) k 0 - 1))
  fair k j fk fj less =
      elim (cases_eq i k) [
        | inl e ↦
            (let here : get_or (raise s (i ∷ [])) i 0 - 1 ≡ get_or s i 0 = omega (arith, at) in
            let best = subst (λ n. AtMost (quotient method (get_or v j 0) (get_or s j 0)) (quotient method (get_or v i 0) n)) (sym here) (greatest j fj) in
            subst (λ x. AtMost (quotient method (get_or v j 0) (get_or s j 0)) (quotient method (get_or v x 0) (get_or (raise s (i ∷ [])) x 0 - 1))) e best)
        | inr ne ↦
            (let o = other k ne in
            let last = h.min_max k j fk fj (omega (arith, o, less)) in
            subst (λ n. AtMost (quotient method (get_or v j 0) (get_or s j 0)) (quotient method (get_or v k 0) (n - 1))) (sym o) last)
      ]

  pub one_more : IsDivisorAllocation method v m (seats + 1) (raise s (i ∷ []))
  one_more = record {
    same_length = length-raise s (i ∷ []) ∙ h.same_length;
    total = let more = sum-raise s (i ∷ []) within in omega (arith, more, h.total);
    minima = λ j. let low = h.minima j in let u = up j in omega (arith, low, u);
    outside = λ j z. other j (λ e. let f = subst (λ x. InField v x) e fi in omega (arith, f, z)) ∙ h.outside j z;
    min_max = λ k j fk fj less.
        AtMost-trans (quotient method (get_or v j 0) (get_or (raise s (i ∷ [])) j 0)) (quotient method (get_or v j 0) (get_or s j 0))
        (quotient method (get_or v k 0) (get_or (raise s (i ∷ [])) k 0 - 1))
        (quotient_positive method (get_or v j 0) (get_or s j 0) fj)
        (falls_weak method v j (get_or s j 0) (get_or (raise s (i ∷ [])) j 0) fj (up j)) (fair k j fk fj less);
  }

pub house_monotone : HouseMonotone
house_monotone method v m seats s h f ff =
    elim (cases_peer (divisor_ladders method v (no_minima v)) (falling method v (no_minima v) (length_zeros (length v))) s) [
      | inl none ↦ absurd (none f (has_of method v (no_minima v) f (get_or s f 0) ff))
      | inr some ↦
          (let i = some.0 in
          let fi = field_of method v (no_minima v) i (get_or s i 0) some.1.next in
          let best : (j : ℕ) → InField v j → AtMost (quotient method (get_or v j 0) (get_or s j 0)) (quotient method (get_or v i 0) (get_or s i 0)) =
          λ j fj. some.1.greatest j (has_of method v (no_minima v) j (get_or s j 0) fj) in
          (i, raise s (i ∷ []), raised method v m seats s h i fi best, one_more method v m seats s h i fi best))
    ]
