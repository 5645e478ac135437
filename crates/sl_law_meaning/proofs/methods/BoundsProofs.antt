-- The bounds of an allocation are equal where there is another one.
use Rattle.std.proofs.Common.{◌≡◌, ◌≢◌, ℕ, ◌-◌, ◌<◌, ◌≤◌, ◌⊎◌, List, length, get_or, sum, inl, inr, arith, sym, ap, ◌∙◌, subst}
use Rattle.std.proofs.lemmas.Bool.{cases_lt, cases_eq}
use Rattle.std.proofs.lemmas.List.{ext_get_or}
use Rattle.std.proofs.lemmas.List.Elements.{Contains-get_or}
use Rattle.sl_base_quotients.specs.declared.method.Divisor.{Divisor}
use Rattle.sl_base_quotients.specs.Quotient.{AtMost, SameQuotient}
use Rattle.sl_base_quotients.specs.Bounds.{IsLast, IsNext, last_quotient, next_quotient}
use Rattle.sl_base_quotients.proofs.Order.{AtMost-trans}
use Rattle.sl_law_meaning.specs.methods.Field.{no_minima}
use Rattle.sl_law_meaning.specs.methods.Allocations.{IsDivisorAllocation}
use Rattle.sl_law_meaning.specs.laws.Ladders.{IsTop, IsSettled, divisor_ladders}
use Rattle.sl_law_meaning.specs.laws.EqualBounds.{EqualBounds}
use Rattle.sl_law_meaning.proofs.methods.SeatSums.{some_greater, none_needed, sum_zeros}
use Rattle.sl_law_meaning.proofs.methods.RaisedSeats.{increasing_distinct}
use Rattle.sl_law_meaning.proofs.methods.ListedEntries.{cases_all}
use Rattle.sl_law_meaning.proofs.methods.OneBatch.{falls_to_weak, has_next, peers_within}
use Rattle.sl_law_meaning.proofs.methods.ManyBatches.{last_batch, tops_only, tops_each}
use Rattle.sl_law_meaning.proofs.methods.TieLaw.{none_raised, tied_some}
use Rattle.sl_law_meaning.proofs.methods.DivisorProofs.{free_tops, has_of, field_of}

-- two lists that differ do so at an entry
differ_at : (s t : List ℕ) → length s ≡ length t → (t ≢ s) → (i : ℕ) × (get_or s i 0 ≢ get_or t i 0)
differ_at s t e ne =
    let P : ℕ → Type 0 = λ i. get_or s i 0 ≡ get_or t i 0 in
    let dec : (i : ℕ) → P i ⊎ (P i → ⊥) = λ i. cases_eq (get_or s i 0) (get_or t i 0) in
    elim (cases_all P dec (length s)) [
      | inr some ↦ (some.0, some.1)
      | inl all ↦ absurd (ne (sym (ext_get_or 0 s t e all)))
    ]

-- of two members that differ, one is another than s
other_member : (X : List ℕ → Type 0) (s a b : List ℕ) (p : ℕ) → X a → X b → get_or b p 0 < get_or a p 0 → (t : List ℕ) × X t × (t ≢ s)
other_member X s a b p ha hb less =
    elim (cases_eq (get_or a p 0) (get_or s p 0)) [
      | inr ne ↦ (a, ha, λ e. ne (ap (λ y. get_or y p 0) e))
      | inl e ↦ (b, hb, λ e'. let same : get_or b p 0 ≡ get_or s p 0 = ap (λ y. get_or y p 0) e' in omega (arith, e, same, less))
    ]

module _ (method : Divisor) (v : List ℕ) (seats : ℕ) (s : List ℕ) (hs : IsDivisorAllocation method v (no_minima v) seats s) where
  module _ (i j : ℕ) (last : IsLast method v s i) (next : IsNext method v s j) where
    -- an allocation has a greater entry than another, and a smaller one: the last seat is worth no more than the next one
    worth : (t : List ℕ) → IsDivisorAllocation method v (no_minima v) seats t → (a : ℕ) → get_or s a 0 < get_or t a 0 →
        AtMost (last_quotient method v s i) (next_quotient method v s j)
    worth t ht a more =
        let tops_law = free_tops method v in
        let law = tops_law.falling in
        let S = (tops_law.tops seats s).0 hs in
        let T = (tops_law.tops seats t).0 ht in
        let l = divisor_ladders method v (no_minima v) in
        let same : sum t ≤ sum s = omega (arith, hs.total, ht.total) in
        let found = some_greater t s a same more in
        let b = found.0 in
        let less : get_or t b 0 < get_or s b 0 = found.1 in
        let sa = has_next l law s t a S.on T.on more in
        let tb = has_next l law t s b T.on S.on less in
        let za = none_needed (length v) a in
        let zb = none_needed (length v) b in
        let fa = field_of method v (no_minima v) a (get_or s a 0) sa in
        let fb = field_of method v (no_minima v) b (get_or t b 0) tb in
        -- last ≤ q(b, s_b - 1) ≤ q(b, t_b) ≤ q(a, t_a - 1) ≤ q(a, s_a) ≤ next
        let one = last.least b fb (omega arith) in
        let sb = has_of method v (no_minima v) b (get_or s b 0 - 1) fb in
        let two = falls_to_weak l law b (get_or t b 0) (get_or s b 0 - 1) (omega (arith, zb)) (omega arith) sb in
        let three = ht.min_max a b fa fb (omega (arith, za)) in
        let ta = has_of method v (no_minima v) a (get_or t a 0 - 1) fa in
        let four = falls_to_weak l law a (get_or s a 0) (get_or t a 0 - 1) (omega (arith, za)) (omega arith) ta in
        let five = next.greatest a fa in
        let A = last_quotient method v s i in
        let B = last_quotient method v s b in
        let C = next_quotient method v t b in
        let D = last_quotient method v t a in
        let E = next_quotient method v s a in
        let F = next_quotient method v s j in
        AtMost-trans A B F (law.positive b (get_or s b 0 - 1) sb) one
        (AtMost-trans B C F (law.positive b (get_or t b 0) tb) two (AtMost-trans C D F (law.positive a (get_or t a 0 - 1) ta) three (AtMost-trans D E F (law.positive a (get_or s a 0) sa) four five)))

    meets_from : (t : List ℕ) → IsDivisorAllocation method v (no_minima v) seats t → (t ≢ s) →
        SameQuotient (last_quotient method v s i) (next_quotient method v s j)
    meets_from t ht ne =
        let found = differ_at s t (hs.same_length ∙ sym ht.same_length) ne in
        let more : (a : ℕ) × (get_or s a 0 < get_or t a 0) = elim (cases_lt (get_or s found.0 0) (get_or t found.0 0)) [
          | inl l ↦ (found.0, l)
          | inr g ↦ (let out = found.1 in
              let l : get_or t found.0 0 < get_or s found.0 0 = omega (arith, g, out) in
              some_greater s t found.0 (omega (arith, hs.total, ht.total)) l)
        ] in
        let up = worth t ht more.0 more.1 in
        let z = none_needed (length v) i in
        let awarded = last.awarded in
        let down = hs.min_max i j last.weight next.weight (omega arith) in
        omega (arith, up, down)

    meets_to : SameQuotient (last_quotient method v s i) (next_quotient method v s j) →
        (t : List ℕ) × IsDivisorAllocation method v (no_minima v) seats t × (t ≢ s)
    meets_to same =
        let tops_law = free_tops method v in
        let law = tops_law.falling in
        let l = divisor_ladders method v (no_minima v) in
        let f = last.weight in
        let b = last_batch l law seats (tops_law.room seats i f) (omega (arith, sum_zeros (length v))) in
        let d = increasing_distinct b.peers b.listed.in_order in
        let within = peers_within l law b.start b.peers b.settled b.listed in
        let unique : b.k ≡ 0 → ⊥ = λ z.
        let e : s ≡ b.start = none_raised b.start b.peers b.k d within s z (tops_only l law seats b s ((tops_law.tops seats s).0 hs)) in
        let settled : IsSettled l s = subst (λ y. IsSettled l y) (sym e) b.settled in
        let zi = none_needed (length v) i in
        let awarded = last.awarded in
        let apart = settled.apart i j (omega arith) (has_of method v (no_minima v) j (get_or s j 0) next.weight) in
        omega (arith, apart, same) in
        elim (cases_lt 0 b.k) [
          | inr g ↦ absurd (unique (omega arith))
          | inl pos ↦ elim b.few [
            | inl z ↦ absurd (unique z)
            | inr less ↦
                (let ties = tied_some b.start b.peers b.k d within (IsTop l seats) (tops_only l law seats b) (tops_each l law seats b) b.listed.in_order pos less in
                let p = get_or b.peers 0 0 in
                let tied = ties.are_tied.entries.has_only p (Contains-get_or b.peers 0 0 (omega arith)) in
                let other = other_member (IsTop l seats) s tied.0 tied.2.0 p tied.1 tied.2.1 tied.2.2 in
                (other.0, (tops_law.tops seats other.0).1 other.1, other.2))
          ]
        ]

pub equal_bounds : EqualBounds
equal_bounds method v seats s hs i j last next = (meets_to method v seats s hs i j last next, λ other. meets_from method v seats s hs i j last next other.0 other.1 other.2)
