-- When an entry keeps its seats with fewer votes: where its last quotient is above the next one of every other entry.
use Rattle.std.proofs.Common.{◌≡◌, ◌≢◌, ℕ, zero, suc, ◌-◌, ◌*◌, ◌<◌, ◌≤◌, List, length, get_or, map, sum, Option, Some, None, inl, inr, arith, sym, ◌∙◌, subst}
use Rattle.std.specs.List.{range_with_len}
use Rattle.std.specs.Option.{SomeIff}
use Rattle.std.proofs.lemmas.Bool.{cases_lt}
use Rattle.std.proofs.lemmas.List.{length-set, get_or-set_same, get_or-set_other, get_or_past}
use Rattle.std.proofs.lemmas.List.FromFn.{length-map-range_with_len, get_or-map-range_with_len}
use Rattle.sl_base_quotients.specs.declared.method.Divisor.{Divisor}
use Rattle.sl_base_quotients.specs.Quotient.{Quotient, AtMost, quotient}
use Rattle.sl_base_quotients.specs.Bounds.{HasWeight, next_quotient}
use Rattle.sl_base_quotients.specs.inner.QuotientLaws.{quotient_positive}
use Rattle.sl_base_quotients.proofs.Order.{AtMost-trans}
use Rattle.sl_law_meaning.specs.methods.Field.{InField}
use Rattle.sl_law_meaning.specs.methods.Allocations.{IsDivisorAllocation}
use Rattle.sl_law_meaning.proofs.methods.SeatSums.{some_greater}
use Rattle.sl_law_meaning.proofs.methods.DivisorProofs.{divisor_allocations, in_range}
use Rattle.sl_law_fairness.proofs.Chains.{falls_weak, in_field}
use Rattle.sl_law_fairness.proofs.Moves.{other}
use Rattle.sl_law_margins.specs.VotesToSpare.{with_fewer, KeepsItsSeats, MayLoseASeat, AreToSpare}
use Rattle.sl_law_margins.specs.inner.Needed.{IsLeast, IsAbove}
use Rattle.sl_law_margins.specs.inner.Kept.{Holds, IsKept}
use Rattle.sl_law_margins.proofs.Gains.{above_weight}
use Rattle.sl_law_margins.proofs.Kept.{above_rises, decide_holds}
use Rattle.sl_law_margins.proofs.NoMinima.{same_minima}

-- where an entry has votes there is an allocation of as many seats, with the same minima
pub some_allocation : (method : Divisor) (v w m s : List ℕ) → length w ≡ length v → IsDivisorAllocation method v m (sum s) s → (i : ℕ) → InField w i →
    (t : List ℕ) × IsDivisorAllocation method w m (sum s) t
some_allocation method v w m s long h i f =
    let p = map (λ k. get_or m k 0) (range_with_len 0 (length v)) in
    let lp : length p ≡ length v = length-map-range_with_len (λ k. get_or m k 0) 0 (length v) in
    let same : (k : ℕ) → get_or p k 0 ≡ get_or m k 0 = λ k.
    elim (cases_lt k (length v)) [
      | inl l ↦ get_or-map-range_with_len (λ k. get_or m k 0) 0 (length v) k k 0 l (omega arith)
      | inr g ↦
          (let a = get_or_past p k 0 (omega (arith, lp, g)) in
          let b = get_or_past s k 0 (omega (arith, h.same_length, g)) in
          let c = h.minima k in omega (arith, a, b, c))
    ] in
    let padded = same_minima method v m p (sum s) s (λ k. sym (same k)) h in
    let can = (divisor_allocations method v p (sum s) lp).0.0 (s, padded) in
    let some = (divisor_allocations method w p (sum s) (lp ∙ sym long)).0.1 (can.0, λ empty. absurd (empty i f)) in
    (some.0, same_minima method w p m (sum s) some.0 same some.1)

module _ (method : Divisor) (v m s : List ℕ) (h : IsDivisorAllocation method v m (sum s) s) (i : ℕ) (within : i < length v) (beyond : get_or m i 0 < get_or s i 0) where
  here : (z : ℕ) → get_or (with_fewer v i z) i 0 ≡ get_or v i 0 - z
  here z = get_or-set_same v i (get_or v i 0 - z) 0 within

  others : (z j : ℕ) → j ≢ i → get_or (with_fewer v i z) j 0 ≡ get_or v j 0
  others z j ne = get_or-set_other v i j (get_or v i 0 - z) 0 ne

  -- with a last quotient above the next one of every other it keeps them
  pub keeps : (z : ℕ) → ((j : ℕ) → j ≢ i → HasWeight v j → IsAbove method (get_or s i 0 - 1) (next_quotient method v s j) (get_or v i 0 - z)) → KeepsItsSeats method v m s i z
  keeps z above t ht =
      elim (cases_lt (get_or t i 0) (get_or s i 0)) [
        | inr g ↦ g
        | inl less ↦ absurd (
            let w = with_fewer v i z in
            let found = some_greater s t i (omega (arith, ht.total)) less in
            let j = found.0 in
            let more : get_or s j 0 < get_or t j 0 = found.1 in
            let ne : j ≢ i = λ e. let more' = subst (λ k. get_or s k 0 < get_or t k 0) e more in omega (arith, more', less) in
            let low = h.minima j in
            let over : get_or m j 0 < get_or t j 0 = omega (arith, low, more) in
            let wj = in_field method w m (sum s) t ht j over in
            let same = others z j ne in
            let fj : InField v j = omega (arith, wj, same) in
            let up = above j ne fj in
            let pos = above_weight method (get_or s i 0 - 1) (get_or v i 0 - z) (next_quotient method v s j) up in
            let own = here z in
            let wi : InField w i = omega (arith, own, pos) in
            let fair = ht.min_max j i wj wi over in
            let fair' = subst (λ n. AtMost (quotient method (get_or w i 0) (get_or t i 0)) (quotient method n (get_or t j 0 - 1))) same fair in
            let first = falls_weak method w i (get_or t i 0) (get_or s i 0 - 1) wi (omega (arith, less)) in
            let last = falls_weak method v j (get_or s j 0) (get_or t j 0 - 1) fj (omega (arith, more)) in
            let all = AtMost-trans (quotient method (get_or w i 0) (get_or s i 0 - 1)) (quotient method (get_or w i 0) (get_or t i 0)) (next_quotient method v s j)
            (quotient_positive method (get_or w i 0) (get_or t i 0) wi) first
            (AtMost-trans (quotient method (get_or w i 0) (get_or t i 0)) (quotient method (get_or v j 0) (get_or t j 0 - 1)) (next_quotient method v s j)
            (quotient_positive method (get_or v j 0) (get_or t j 0 - 1) fj) fair' last) in
            let all' = subst (λ n. AtMost (quotient method n (get_or s i 0 - 1)) (next_quotient method v s j)) own all in
            omega (arith, all', up))
      ]

  -- with one that is not above the next one of another it may lose a seat to some entry
  module _ (z : ℕ) (less : z < get_or v i 0) (j : ℕ) (ne : j ≢ i) (fj : HasWeight v j) (worth : AtMost (quotient method (get_or v i 0 - z) (get_or s i 0 - 1)) (next_quotient method v s j)) where
    w : List ℕ
    w = with_fewer v i z

    wi : InField w i
    unfolding w
    wi = let own = here z in omega (arith, own, less)

    same : (k : ℕ) → k ≢ i → get_or w k 0 ≡ get_or v k 0
    unfolding w
    same k out = others z k out

    worth' : AtMost (quotient method (get_or w i 0) (get_or s i 0 - 1)) (next_quotient method v s j)
    unfolding w
    worth' = subst (λ n. AtMost (quotient method n (get_or s i 0 - 1)) (next_quotient method v s j)) (sym (here z)) worth

    module _ (t : List ℕ) (ht : IsDivisorAllocation method w m (sum s) t) (many : get_or s i 0 ≤ get_or t i 0) where
      last : AtMost (quotient method (get_or w i 0) (get_or t i 0 - 1)) (next_quotient method v s j)
      last =
          AtMost-trans (quotient method (get_or w i 0) (get_or t i 0 - 1)) (quotient method (get_or w i 0) (get_or s i 0 - 1)) (next_quotient method v s j)
          (quotient_positive method (get_or w i 0) (get_or s i 0 - 1) wi) (falls_weak method w i (get_or s i 0 - 1) (get_or t i 0 - 1) wi (omega (arith, many))) worth'

      -- a seat moved to k, which has a claim to it
      to : (k : ℕ) → k ≢ i → InField v k → AtMost (next_quotient method v s j) (quotient method (get_or v k 0) (get_or t k 0)) →
          (u : List ℕ) × IsDivisorAllocation method w m (sum s) u × (get_or u i 0 ≡ get_or t i 0 - 1)
      to k out fk claim =
          let e = same k out in
          let wk : InField w k = omega (arith, fk, e) in
          let all = AtMost-trans (quotient method (get_or w i 0) (get_or t i 0 - 1)) (next_quotient method v s j) (quotient method (get_or v k 0) (get_or t k 0))
          (quotient_positive method (get_or v j 0) (get_or s j 0) fj) last claim in
          let all' = subst (λ n. AtMost (quotient method (get_or w i 0) (get_or t i 0 - 1)) (quotient method n (get_or t k 0))) (sym e) all in
          let o = other method w m (sum s) t ht i k (λ x. out (sym x)) (omega (arith, beyond, many)) wk all' in
          (o.0, o.1, o.2)

      one_less : (u : List ℕ) × IsDivisorAllocation method w m (sum s) u × (get_or u i 0 ≡ get_or t i 0 - 1)
      one_less =
          elim (cases_lt (get_or s j 0) (get_or t j 0)) [
            | inr few ↦ to j ne fj (falls_weak method v j (get_or t j 0) (get_or s j 0) fj few)
            | inl more ↦
                (let found = some_greater t s j (omega (arith, ht.total)) more in
                let q = found.0 in
                let lost : get_or t q 0 < get_or s q 0 = found.1 in
                let out : q ≢ i = λ e. let lost' = subst (λ k. get_or t k 0 < get_or s k 0) e lost in omega (arith, lost', many) in
                let low = ht.minima q in
                let over : get_or m q 0 < get_or s q 0 = omega (arith, low, lost) in
                let fq = in_field method v m (sum s) s h q over in
                to q out fq (AtMost-trans (next_quotient method v s j) (quotient method (get_or v q 0) (get_or s q 0 - 1)) (quotient method (get_or v q 0) (get_or t q 0))
                (quotient_positive method (get_or v q 0) (get_or s q 0 - 1) fq) (h.min_max q j fq fj over) (falls_weak method v q (get_or t q 0) (get_or s q 0 - 1) fq (omega (arith, lost)))))
          ]

    down : (n : ℕ) (t : List ℕ) → IsDivisorAllocation method w m (sum s) t → get_or t i 0 ≤ n → (u : List ℕ) × IsDivisorAllocation method w m (sum s) u × (get_or u i 0 < get_or s i 0)
    down zero t ht le = (t, ht, omega (arith, le, beyond))
    down (suc n) t ht le =
        elim (cases_lt (get_or t i 0) (get_or s i 0)) [
          | inl few ↦ (t, ht, few)
          | inr many ↦ (let o = one_less t ht many in let e = o.2 in down n o.0 o.1 (omega (arith, e, le, many, beyond)))
        ]

    pub may_lose : MayLoseASeat method v m s i z
    unfolding w
    may_lose =
        let some = some_allocation method v w m s (length-set v i (get_or v i 0 - z)) h i wi in
        down (get_or some.0 i 0) some.0 some.1 (omega arith)

  -- a weight that is less than the least that holds
  fails : (k : ℕ) → IsLeast (Holds method v s i (length v)) k → (x : ℕ) → x < get_or v i 0 → get_or v i 0 - x < k → MayLoseASeat method v m s i x
  fails k kept x less few =
      elim (decide_holds method v s i (get_or v i 0 - x) (omega (arith, less)) (length v)) [
        | inl holds ↦ absurd (let le = kept.least (get_or v i 0 - x) holds in omega (arith, le, few))
        | inr f ↦ may_lose x less f.0 f.2 f.3 f.4
      ]

  -- what the search finds
  pub spare_some : (k : ℕ) → IsLeast (Holds method v s i (length v)) k → k ≤ get_or v i 0 → AreToSpare method v m s i (Some (get_or v i 0 - k))
  spare_some k kept le =
      let pos = kept.holds.positive in (
        omega (arith, pos, le),
        λ x few. keeps x (λ j ne f.
            above_rises method (get_or s i 0 - 1) k (get_or v i 0 - x) (next_quotient method v s j) (omega (arith, few, pos, le)) (omega (arith, few, le))
            (kept.holds.above j (in_range v j f) ne f)),
        λ x many less. fails k kept x less (omega (arith, many, le)),
      )

  pub spare_none : (k : ℕ) → IsLeast (Holds method v s i (length v)) k → get_or v i 0 < k → AreToSpare method v m s i None
  spare_none k kept few = λ x less. fails k kept x less (omega (arith, few))

  -- an infinite next quotient is no smaller than any
  pub spare_infinite : IsKept method v s i (length v) None → AreToSpare method v m s i None
  spare_infinite found = λ x less. may_lose x less found.0 found.2 found.3 (at_infinite (quotient method (get_or v i 0 - x) (get_or s i 0 - 1)) (next_quotient method v s found.0) found.4)
    where
      at_infinite : (x y : Quotient) → y.den ≡ 0 → AtMost x y
      at_infinite x y z = let none : x.num * y.den ≡ 0 = rw z (omega arith) in omega (arith, none)

  pub spare_by : (k : ℕ) → IsLeast (Holds method v s i (length v)) k → (answer : Option ℕ) → SomeIff answer (k ≤ get_or v i 0) (get_or v i 0 - k) → AreToSpare method v m s i answer
  spare_by k kept None none = spare_none k kept (elim (cases_lt (get_or v i 0) k) [ inl l ↦ l | inr g ↦ absurd (none g) ])
  spare_by k kept (Some y) some = subst (λ n. AreToSpare method v m s i (Some n)) (sym some.1) (spare_some k kept some.0)
