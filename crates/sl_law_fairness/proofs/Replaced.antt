-- Another allocation of a part, put in its place.
use Rattle.std.proofs.Common.{◌≡◌, ℕ, suc, ◌+◌, ◌-◌, ◌<◌, List, [], ◌∷◌, length, get_or, set, sum, inl, inr, arith, refl, sym, ap, ◌∙◌, subst}
use Rattle.std.specs.Prelude.{Contains}
use Rattle.std.proofs.Math.ListN.{length-set}
use Rattle.std.proofs.lemmas.Bool.{cases_lt, cases_eq}
use Rattle.std.proofs.lemmas.List.{get_or-set_same, get_or-set_other}
use Rattle.std.proofs.lemmas.List.Sums.{sum_by-set}
use Rattle.sl_base_quotients.specs.declared.method.Divisor.{Divisor}
use Rattle.sl_base_quotients.specs.Quotient.{AtMost, quotient}
use Rattle.sl_base_quotients.specs.inner.QuotientLaws.{quotient_positive}
use Rattle.sl_base_quotients.proofs.Order.{AtMost-trans}
use Rattle.sl_law_meaning.specs.methods.Field.{InField}
use Rattle.sl_law_meaning.specs.methods.Allocations.{IsDivisorAllocation}
use Rattle.sl_law_meaning.specs.methods.Ties.{Distinct}
use Rattle.sl_law_meaning.proofs.methods.SeatSums.{sum-cons, some_greater}
use Rattle.sl_law_meaning.proofs.methods.RaisedSeats.{Contains-head, Contains-tail, Contains-cases, Contains-none, cases_Contains}
use Rattle.sl_law_meaning.proofs.methods.TieLaw.{equal_lists, below_length}
use Rattle.sl_law_fairness.specs.Parts.{part, IsPutIn, PartsReplaced}
use Rattle.sl_law_fairness.proofs.Chains.{falls_weak, in_field}
use Rattle.sl_law_fairness.proofs.Parts.{part_at, within, coherent}

-- where an entry is named
place : (entries : List ℕ) (i : ℕ) → Contains entries i → (p : ℕ) × (p < length entries) × (get_or entries p 0 ≡ i)
place [] i c = absurd (Contains-none i c)
place (e ∷ es) i c =
    elim (Contains-cases e es i c) [
      | inl same ↦ (0, omega arith, same)
      | inr c' ↦ (let rest = place es i c' in (suc rest.0, (let l = rest.1 in omega (arith, l)), rest.2))
    ]

part_same : (entries xs ys : List ℕ) → ((i : ℕ) → Contains entries i → get_or xs i 0 ≡ get_or ys i 0) → sum (part entries xs) ≡ sum (part entries ys)
part_same [] xs ys h = refl
part_same (e ∷ es) xs ys h =
    let here = h e (Contains-head e es) in
    let rest = part_same es xs ys (λ i c. h i (Contains-tail e es i c)) in
    let a = sum-cons (get_or xs e 0) (part es xs) in
    let b = sum-cons (get_or ys e 0) (part es ys) in
    omega (arith, here, rest, a, b)

-- two lists that are equal outside some entries differ in sum by those alone
replaced_sum : (entries s t : List ℕ) → Distinct entries → length t ≡ length s →
    ((i : ℕ) → (Contains entries i → ⊥) → get_or t i 0 ≡ get_or s i 0) → sum t + sum (part entries s) ≡ sum s + sum (part entries t)
replaced_sum [] s t d l others = let e = equal_lists t s l (λ i. others i (Contains-none i)) in let same : sum t ≡ sum s = ap sum e in omega (arith, same)
replaced_sum (e ∷ es) s t d l others =
    let a = sum-cons (get_or s e 0) (part es s) in
    let b = sum-cons (get_or t e 0) (part es t) in
    elim (cases_eq (get_or t e 0) (get_or s e 0)) [
      | inl same ↦
          (let rest = replaced_sum es s t d.1 l (λ i out. elim (cases_eq e i) [
            | inl h ↦ subst (λ k. get_or t k 0 ≡ get_or s k 0) h same
            | inr ne ↦ others i (λ c. elim (Contains-cases e es i c) [ inl h ↦ ne h | inr c' ↦ out c' ])
          ]) in
          omega (arith, rest, same, a, b))
      | inr differ ↦
          (let inside : e < length t = elim (cases_lt 0 (get_or t e 0)) [
            | inl some ↦ below_length t e 0 some
            | inr none ↦ (let far = below_length s e 0 (omega (arith, none, differ)) in omega (arith, far, l))
          ] in
          let x = get_or s e 0 in
          let t' = set t e x in
          let lt = length-set t e x in
          let one : sum t' + get_or t e 0 ≡ sum t + get_or s e 0 = sum_by-set (λ n. n) t e (get_or s e 0) 0 inside in
          let rest = replaced_sum es s t' d.1 (lt ∙ l) (λ i out. elim (cases_eq e i) [
            | inl h ↦ subst (λ k. get_or t' k 0 ≡ get_or s k 0) h (get_or-set_same t e x 0 inside)
            | inr ne ↦ get_or-set_other t e i x 0 (λ h. ne (sym h)) ∙ others i (λ c. elim (Contains-cases e es i c) [ inl h ↦ ne h | inr c' ↦ out c' ])
          ]) in
          let kept = part_same es t' t (λ i c. get_or-set_other t e i x 0 (λ h. d.0 (subst (λ k. Contains es k) h c))) in
          omega (arith, rest, one, kept, a, b))
    ]

-- two allocations of the same seats: each last quotient of the one is at least one of the other, and each next one at most
module _ (method : Divisor) (v m : List ℕ) (seats : ℕ) (s u : List ℕ)
    (hs : IsDivisorAllocation method v m seats s) (hu : IsDivisorAllocation method v m seats u) where
  last_from : (p : ℕ) → InField v p → get_or m p 0 < get_or u p 0 →
      (k : ℕ) × InField v k × (get_or m k 0 < get_or s k 0)
      × AtMost (quotient method (get_or v k 0) (get_or s k 0 - 1)) (quotient method (get_or v p 0) (get_or u p 0 - 1))
  last_from p fp less =
      elim (cases_lt (get_or s p 0) (get_or u p 0)) [
        | inr g ↦ (p, fp, omega arith, falls_weak method v p (get_or u p 0 - 1) (get_or s p 0 - 1) fp (omega arith))
        | inl more ↦
            (let found = some_greater u s p (omega (arith, hs.total, hu.total)) more in
            let k = found.0 in
            let fewer : get_or u k 0 < get_or s k 0 = found.1 in
            let low = hu.minima k in
            let above : get_or m k 0 < get_or s k 0 = omega (arith, low, fewer) in
            let fk = in_field method v m seats s hs k above in (
              k,
              fk,
              above,
              AtMost-trans (quotient method (get_or v k 0) (get_or s k 0 - 1)) (quotient method (get_or v k 0) (get_or u k 0)) (quotient method (get_or v p 0) (get_or u p 0 - 1))
                  (quotient_positive method (get_or v k 0) (get_or u k 0) fk)
                  (falls_weak method v k (get_or u k 0) (get_or s k 0 - 1) fk (omega arith)) (hu.min_max p k fp fk less),
            ))
      ]

  next_from : (p : ℕ) → InField v p →
      (k : ℕ) × InField v k × AtMost (quotient method (get_or v p 0) (get_or u p 0)) (quotient method (get_or v k 0) (get_or s k 0))
  next_from p fp =
      elim (cases_lt (get_or u p 0) (get_or s p 0)) [
        | inr g ↦ (p, fp, falls_weak method v p (get_or s p 0) (get_or u p 0) fp g)
        | inl less ↦
            (let found = some_greater s u p (omega (arith, hs.total, hu.total)) less in
            let k = found.0 in
            let more : get_or s k 0 < get_or u k 0 = found.1 in
            let low = hs.minima k in
            let above : get_or m k 0 < get_or u k 0 = omega (arith, low, more) in
            let fk = in_field method v m seats u hu k above in (
              k,
              fk,
              AtMost-trans (quotient method (get_or v p 0) (get_or u p 0)) (quotient method (get_or v k 0) (get_or u k 0 - 1)) (quotient method (get_or v k 0) (get_or s k 0))
                  (quotient_positive method (get_or v k 0) (get_or u k 0 - 1) fk) (hu.min_max k p fk fp above)
                  (falls_weak method v k (get_or s k 0) (get_or u k 0 - 1) fk (omega arith)),
            ))
      ]

module _ (method : Divisor) (v m : List ℕ) (seats : ℕ) (s : List ℕ) (hs : IsDivisorAllocation method v m seats s) (entries u t : List ℕ)
    (d : Distinct entries) (hu : IsDivisorAllocation method (part entries v) (part entries m) (sum (part entries s)) u) (put : IsPutIn entries u s t) where
  hx : IsDivisorAllocation method (part entries v) (part entries m) (sum (part entries s)) (part entries s)
  hx = coherent method v m seats s hs entries

  -- what the part has at the place of an entry
  at : (xs : List ℕ) (p i : ℕ) → p < length entries → get_or entries p 0 ≡ i → get_or (part entries xs) p 0 ≡ get_or xs i 0
  at xs p i l e = part_at entries xs p l ∙ ap (λ k. get_or xs k 0) e

  at_u : (p i : ℕ) → p < length entries → get_or entries p 0 ≡ i → get_or u p 0 ≡ get_or t i 0
  at_u p i l e = ap (λ xs. get_or xs p 0) (sym put.put) ∙ at t p i l e

  last_of : (i : ℕ) → InField v i → get_or m i 0 < get_or t i 0 →
      (k : ℕ) × InField v k × (get_or m k 0 < get_or s k 0)
      × AtMost (quotient method (get_or v k 0) (get_or s k 0 - 1)) (quotient method (get_or v i 0) (get_or t i 0 - 1))
  last_of i fi less =
      elim (cases_Contains entries i) [
        | inr out ↦
            (let same = put.others i out in
            (i, fi, omega (arith, less, same), subst (λ n. AtMost (quotient method (get_or v i 0) (get_or s i 0 - 1)) (quotient method (get_or v i 0) (n - 1))) (sym same) (omega arith)))
        | inl c ↦
            (let here = place entries i c in
            let p = here.0 in
            let vp = at v p i here.1 here.2 in
            let mp = at m p i here.1 here.2 in
            let up = at_u p i here.1 here.2 in
            let found = last_from method (part entries v) (part entries m) (sum (part entries s)) (part entries s) u hx hu p (omega (arith, fi, vp)) (omega (arith, less, mp, up)) in
            let k = found.0 in
            let fk : 0 < get_or (part entries v) k 0 = found.1 in
            let above : get_or (part entries m) k 0 < get_or (part entries s) k 0 = found.2 in
            let lk = within entries v k fk in
            let vk = part_at entries v k lk in
            let mk = part_at entries m k lk in
            let sk = part_at entries s k lk in (
              get_or entries k 0,
              omega (arith, fk, vk),
              omega (arith, above, mk, sk),
              subst (λ n. AtMost (quotient method (get_or v (get_or entries k 0) 0) (n - 1)) (quotient method (get_or v i 0) (get_or t i 0 - 1))) sk
                  (subst (λ n. AtMost (quotient method n (get_or (part entries s) k 0 - 1)) (quotient method (get_or v i 0) (get_or t i 0 - 1))) vk
                  (subst (λ n. AtMost (quotient method (get_or (part entries v) k 0) (get_or (part entries s) k 0 - 1)) (quotient method (get_or v i 0) (n - 1))) up
                  (subst (λ n. AtMost (quotient method (get_or (part entries v) k 0) (get_or (part entries s) k 0 - 1)) (quotient method n (get_or u p 0 - 1))) vp found.3))),
            ))
      ]

  next_of : (i : ℕ) → InField v i →
      (k : ℕ) × InField v k × AtMost (quotient method (get_or v i 0) (get_or t i 0)) (quotient method (get_or v k 0) (get_or s k 0))
  next_of i fi =
      elim (cases_Contains entries i) [
        | inr out ↦
            (let same = put.others i out in
            (i, fi, subst (λ n. AtMost (quotient method (get_or v i 0) n) (quotient method (get_or v i 0) (get_or s i 0))) (sym same) (omega arith)))
        | inl c ↦
            (let here = place entries i c in
            let p = here.0 in
            let vp = at v p i here.1 here.2 in
            let up = at_u p i here.1 here.2 in
            let found = next_from method (part entries v) (part entries m) (sum (part entries s)) (part entries s) u hx hu p (omega (arith, fi, vp)) in
            let k = found.0 in
            let fk : 0 < get_or (part entries v) k 0 = found.1 in
            let lk = within entries v k fk in
            let vk = part_at entries v k lk in
            let sk = part_at entries s k lk in (
              get_or entries k 0,
              omega (arith, fk, vk),
              subst (λ n. AtMost (quotient method (get_or v i 0) (get_or t i 0)) (quotient method (get_or v (get_or entries k 0) 0) n)) sk
                  (subst (λ n. AtMost (quotient method (get_or v i 0) (get_or t i 0)) (quotient method n (get_or (part entries s) k 0))) vk
                  (subst (λ n. AtMost (quotient method (get_or v i 0) n) (quotient method (get_or (part entries v) k 0) (get_or (part entries s) k 0))) up
                  (subst (λ n. AtMost (quotient method n (get_or u p 0)) (quotient method (get_or (part entries v) k 0) (get_or (part entries s) k 0))) vp found.2))),
            ))
      ]

  replaced : IsDivisorAllocation method v m seats t
  replaced = record {
    same_length = put.same_length ∙ hs.same_length;
    total =
        let all = replaced_sum entries s t d put.same_length put.others in
        let same : sum (part entries t) ≡ sum u = ap sum put.put in
        omega (arith, all, same, hu.total, hs.total);
    minima = λ i. elim (cases_Contains entries i) [
      | inr out ↦ (let same = put.others i out in let low = hs.minima i in omega (arith, same, low))
      | inl c ↦
          (let here = place entries i c in
          let mp = at m here.0 i here.1 here.2 in
          let up = at_u here.0 i here.1 here.2 in
          let low = hu.minima here.0 in
          omega (arith, mp, up, low))
    ];
    outside = λ i z. elim (cases_Contains entries i) [
      | inr out ↦ put.others i out ∙ hs.outside i z
      | inl c ↦
          (let here = place entries i c in
          sym (at_u here.0 i here.1 here.2) ∙ hu.outside here.0 (at v here.0 i here.1 here.2 ∙ z) ∙ at m here.0 i here.1 here.2)
    ];
    min_max = λ i j fi fj less.
        let last = last_of i fi less in
        let next = next_of j fj in
        let a = last.0 in
        let b = next.0 in
        let A = quotient method (get_or v j 0) (get_or t j 0) in
        let B = quotient method (get_or v b 0) (get_or s b 0) in
        let C = quotient method (get_or v a 0) (get_or s a 0 - 1) in
        let D = quotient method (get_or v i 0) (get_or t i 0 - 1) in
        AtMost-trans A B D (quotient_positive method (get_or v b 0) (get_or s b 0) next.1) next.2
        (AtMost-trans B C D (quotient_positive method (get_or v a 0) (get_or s a 0 - 1) last.1) (hs.min_max a b last.1 next.1 last.2) last.3);
  }

pub parts_replaced : PartsReplaced
parts_replaced method v m seats s hs entries u t d hu put = replaced method v m seats s hs entries u t d hu put
