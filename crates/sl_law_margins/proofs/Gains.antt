-- When further votes are enough for one more seat: where the next quotient is above the last one of another entry.
use Rattle.std.proofs.Common.{◌≡◌, ◌≢◌, ℕ, zero, suc, ◌+◌, ◌-◌, ◌*◌, ◌<◌, ◌≤◌, List, length, get_or, sum, inl, inr, arith, refl, sym, ◌∙◌, subst}
use Rattle.std.proofs.lemmas.Bool.{cases_lt, cases_eq}
use Rattle.std.proofs.lemmas.List.{length-set, get_or-set_same, get_or-set_other}
use Rattle.sl_base_quotients.specs.declared.method.Divisor.{Divisor}
use Rattle.sl_base_quotients.specs.declared.method.Divisor.TheVariants.{Adams, Dean, Hill, Webster, Jefferson}
use Rattle.sl_base_quotients.specs.Quotient.{Quotient, AtMost, quotient}
use Rattle.sl_base_quotients.specs.Bounds.{last_quotient}
use Rattle.sl_base_quotients.specs.inner.QuotientLaws.{quotient_positive}
use Rattle.sl_base_quotients.proofs.Order.{AtMost-trans, not-Below}
use Rattle.sl_law_meaning.specs.methods.Field.{InField}
use Rattle.sl_law_meaning.specs.methods.Allocations.{IsDivisorAllocation}
use Rattle.sl_law_meaning.proofs.methods.SeatSums.{some_greater}
use Rattle.sl_law_fairness.proofs.Chains.{falls_weak, rises_weak, in_field}
use Rattle.sl_law_margins.specs.MissingVotes.{with_further, AreEnoughWith, AreTooFewWith}
use Rattle.sl_law_margins.specs.inner.Needed.{IsRival, IsAbove}

-- without votes the numerator is 0
weight_of : (method : Divisor) (w a : ℕ) → 0 < (quotient method w a).num → 0 < w
weight_of method (suc w) a h = omega arith
weight_of Adams zero a h = absurd (omega arith)
weight_of Dean zero a h = absurd (omega arith)
weight_of Hill zero a h = absurd (omega arith)
weight_of Webster zero a h = absurd (omega arith)
weight_of Jefferson zero a h = absurd (omega arith)

above_zero : (a b c d : ℕ) → a * d < c * b → 0 < c
above_zero a b zero d h = absurd (omega arith)
above_zero a b (suc c) d h = omega arith

-- who has a quotient above another has votes
pub above_weight : (method : Divisor) (held w : ℕ) (claim : Quotient) → IsAbove method held claim w → 0 < w
above_weight method held w claim h =
    let y = quotient method w held in
    weight_of method w held (above_zero claim.num claim.den y.num y.den h)

pub has_weight : (method : Divisor) (v s : List ℕ) (i j w : ℕ) → IsAbove method (get_or s i 0) (last_quotient method v s j) w → 0 < w
has_weight method v s i j w h = above_weight method (get_or s i 0) w (last_quotient method v s j) h

module _ (method : Divisor) (v m s : List ℕ) (h : IsDivisorAllocation method v m (sum s) s) (i x : ℕ) (within : i < length v) where
  abbrev w : List ℕ
  w = with_further v i x

  here : get_or w i 0 ≡ get_or v i 0 + x
  here = get_or-set_same v i (get_or v i 0 + x) 0 within

  other : (j : ℕ) → j ≢ i → get_or w j 0 ≡ get_or v j 0
  other j ne = get_or-set_other v i j (get_or v i 0 + x) 0 ne

  no_less : (j : ℕ) → get_or v j 0 ≤ get_or w j 0
  no_less j = elim (cases_eq j i) [
    | inl e ↦ subst (λ k. get_or v k 0 ≤ get_or w k 0) (sym e) (omega (arith, here))
    | inr ne ↦ omega (arith, other j ne)
  ]

  -- a rival whose last quotient is below the entry's next one cannot keep it from one more seat
  module _ (j : ℕ) (rival : IsRival m s i j) (above : IsAbove method (get_or s i 0) (last_quotient method v s j) (get_or v i 0 + x))
      (t : List ℕ) (ht : IsDivisorAllocation method w m (sum s) t) (few : get_or t i 0 ≤ get_or s i 0) where
    fi : InField w i
    fi = let pos = has_weight method v s i j (get_or v i 0 + x) above in omega (arith, here, pos)

    fj : InField v j
    fj = in_field method v m (sum s) s h j rival.beyond

    -- the entry's next quotient is no greater than the last one of who has a seat
    next_low : (k : ℕ) → k ≢ i → get_or m k 0 < get_or t k 0 → AtMost (quotient method (get_or w i 0) (get_or s i 0)) (quotient method (get_or v k 0) (get_or t k 0 - 1))
    next_low k ne above_k =
        let fk = in_field method w m (sum s) t ht k above_k in
        let same = other k ne in
        let fair = ht.min_max k i fk fi above_k in
        let fair' = subst (λ n. AtMost (quotient method (get_or w i 0) (get_or t i 0)) (quotient method n (get_or t k 0 - 1))) same fair in
        AtMost-trans (quotient method (get_or w i 0) (get_or s i 0)) (quotient method (get_or w i 0) (get_or t i 0)) (quotient method (get_or v k 0) (get_or t k 0 - 1))
        (quotient_positive method (get_or w i 0) (get_or t i 0) fi) (falls_weak method w i (get_or t i 0) (get_or s i 0) fi few) fair'

    clash : AtMost (quotient method (get_or w i 0) (get_or s i 0)) (last_quotient method v s j) → ⊥
    clash low =
        let low' = subst (λ n. AtMost (quotient method n (get_or s i 0)) (last_quotient method v s j)) here low in
        omega (arith, low', above)

    no_such : ⊥
    no_such = elim (cases_lt (get_or t j 0) (get_or s j 0)) [
      | inr g ↦
          (let beyond = rival.beyond in
          let first = next_low j rival.other (omega (arith, beyond, g)) in
          clash (AtMost-trans (quotient method (get_or w i 0) (get_or s i 0)) (quotient method (get_or v j 0) (get_or t j 0 - 1)) (last_quotient method v s j)
          (quotient_positive method (get_or v j 0) (get_or t j 0 - 1) fj) first (falls_weak method v j (get_or s j 0 - 1) (get_or t j 0 - 1) fj (omega arith))))
      | inl less ↦
          (let found = some_greater s t j (omega (arith, ht.total)) less in
          let k = found.0 in
          let more : get_or s k 0 < get_or t k 0 = found.1 in
          let ne : k ≢ i = λ e. let more' = subst (λ n. get_or s n 0 < get_or t n 0) e more in omega (arith, more', few) in
          let low = h.minima k in
          let beyond : get_or m k 0 < get_or t k 0 = omega (arith, low, more) in
          let wk = in_field method w m (sum s) t ht k beyond in
          let fk : InField v k = omega (arith, wk, other k ne) in
          let first = next_low k ne beyond in
          let second = falls_weak method v k (get_or s k 0) (get_or t k 0 - 1) fk (omega (arith, more)) in
          let third = h.min_max j k fj fk rival.beyond in
          clash (AtMost-trans (quotient method (get_or w i 0) (get_or s i 0)) (quotient method (get_or v k 0) (get_or t k 0 - 1)) (last_quotient method v s j)
          (quotient_positive method (get_or v k 0) (get_or t k 0 - 1) fk) first
          (AtMost-trans (quotient method (get_or v k 0) (get_or t k 0 - 1)) (quotient method (get_or v k 0) (get_or s k 0)) (last_quotient method v s j)
          (quotient_positive method (get_or v k 0) (get_or s k 0) fk) second third)))
    ]

  pub enough_by : (j : ℕ) → IsRival m s i j → IsAbove method (get_or s i 0) (last_quotient method v s j) (get_or v i 0 + x) → AreEnoughWith method v m s i x
  enough_by j rival above t ht =
      elim (cases_lt (get_or s i 0) (get_or t i 0)) [ inl l ↦ l | inr few ↦ absurd (no_such j rival above t ht few) ]

  -- where no rival's last quotient is below it, the seats are an allocation still
  module _ (none : (j : ℕ) → IsRival m s i j → IsAbove method (get_or s i 0) (last_quotient method v s j) (get_or v i 0 + x) → ⊥) where
    fair : (p q : ℕ) → InField w p → InField w q → get_or m p 0 < get_or s p 0 →
        AtMost (quotient method (get_or w q 0) (get_or s q 0)) (quotient method (get_or w p 0) (get_or s p 0 - 1))
    fair p q fp fq less =
        let vp = in_field method v m (sum s) s h p less in
        elim (cases_eq q i) [
          | inl e ↦ subst (λ k. AtMost (quotient method (get_or w k 0) (get_or s k 0)) (quotient method (get_or w p 0) (get_or s p 0 - 1))) (sym e)
              (elim (cases_eq p i) [
                | inl e' ↦ subst (λ k. AtMost (quotient method (get_or w k 0) (get_or s k 0)) (quotient method (get_or w p 0) (get_or s p 0 - 1))) e'
                    (falls_weak method w p (get_or s p 0 - 1) (get_or s p 0) fp (omega arith))
                | inr ne ↦
                    (let rival : IsRival m s i p = record { other = ne; beyond = less } in
                    let low = not-Below (last_quotient method v s p) (quotient method (get_or v i 0 + x) (get_or s i 0)) (none p rival) in
                    subst (λ n. AtMost (quotient method n (get_or s i 0)) (quotient method (get_or w p 0) (get_or s p 0 - 1))) (sym here)
                    (subst (λ n. AtMost (quotient method (get_or v i 0 + x) (get_or s i 0)) (quotient method n (get_or s p 0 - 1))) (sym (other p ne)) low))
              ])
          | inr ne ↦
              (let vq : InField v q = omega (arith, fq, other q ne) in
              let same = other q ne in
              let one = h.min_max p q vp vq less in
              let two = rises_weak method (get_or v p 0) (get_or w p 0) (get_or s p 0 - 1) (no_less p) in
              subst (λ n. AtMost (quotient method n (get_or s q 0)) (quotient method (get_or w p 0) (get_or s p 0 - 1))) (sym same)
              (AtMost-trans (quotient method (get_or v q 0) (get_or s q 0)) (last_quotient method v s p) (quotient method (get_or w p 0) (get_or s p 0 - 1))
              (quotient_positive method (get_or v p 0) (get_or s p 0 - 1) vp) one two))
        ]

    stays : IsDivisorAllocation method w m (sum s) s
    stays = record {
      same_length = h.same_length ∙ sym (length-set v i (get_or v i 0 + x));
      total = refl;
      minima = h.minima;
      outside = λ k e. h.outside k (let up = no_less k in omega (arith, up, e));
      min_max = fair;
    }

    pub too_few_without : AreTooFewWith method v m s i x
    too_few_without = (s, stays, omega arith)
