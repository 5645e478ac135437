-- A part of an allocation is an allocation.
use Rattle.std.proofs.Common.{◌≡◌, ℕ, zero, suc, ◌-◌, ◌<◌, ◌≤◌, List, [], ◌∷◌, length, get_or, inl, inr, arith, refl, sym, ◌∙◌}
use Rattle.std.proofs.lemmas.Bool.{cases_lt}
use Rattle.std.proofs.lemmas.List.{length-map}
use Rattle.sl_base_quotients.specs.declared.method.Divisor.{Divisor}
use Rattle.sl_base_quotients.specs.Quotient.{AtMost, quotient}
use Rattle.sl_law_meaning.specs.methods.Field.{InField}
use Rattle.sl_law_meaning.specs.methods.Allocations.{IsDivisorAllocation}
use Rattle.sl_law_fairness.specs.Parts.{part, Coherent}

pub part_at : (entries xs : List ℕ) (p : ℕ) → p < length entries → get_or (part entries xs) p 0 ≡ get_or xs (get_or entries p 0) 0
part_at [] xs p l = absurd (omega arith)
part_at (e ∷ es) xs zero l = refl
part_at (e ∷ es) xs (suc p) l = part_at es xs p (omega arith)

pub part_past : (entries xs : List ℕ) (p : ℕ) → length entries ≤ p → get_or (part entries xs) p 0 ≡ 0
part_past [] xs p l = refl
part_past (e ∷ es) xs zero l = absurd (omega arith)
part_past (e ∷ es) xs (suc p) l = part_past es xs p (omega arith)

pub within : (entries xs : List ℕ) (p : ℕ) → 0 < get_or (part entries xs) p 0 → p < length entries
within entries xs p pos =
    elim (cases_lt p (length entries)) [ inl l ↦ l | inr g ↦ absurd (let z = part_past entries xs p g in omega (arith, z, pos)) ]

module _ (method : Divisor) (v m : List ℕ) (seats : ℕ) (s : List ℕ) (h : IsDivisorAllocation method v m seats s) (entries : List ℕ) where
  minima : (p : ℕ) → get_or (part entries m) p 0 ≤ get_or (part entries s) p 0
  minima p =
      elim (cases_lt p (length entries)) [
        | inl l ↦ (let em = part_at entries m p l in let es = part_at entries s p l in let le = h.minima (get_or entries p 0) in omega (arith, em, es, le))
        | inr g ↦ (let em = part_past entries m p g in omega (arith, em))
      ]

  outside : (p : ℕ) → get_or (part entries v) p 0 ≡ 0 → get_or (part entries s) p 0 ≡ get_or (part entries m) p 0
  outside p z =
      elim (cases_lt p (length entries)) [
        | inl l ↦ (let ev = part_at entries v p l in part_at entries s p l ∙ h.outside (get_or entries p 0) (sym ev ∙ z) ∙ sym (part_at entries m p l))
        | inr g ↦ part_past entries s p g ∙ sym (part_past entries m p g)
      ]

  min_max : (p q : ℕ) → InField (part entries v) p → InField (part entries v) q → get_or (part entries m) p 0 < get_or (part entries s) p 0 →
      AtMost (quotient method (get_or (part entries v) q 0) (get_or (part entries s) q 0)) (quotient method (get_or (part entries v) p 0) (get_or (part entries s) p 0 - 1))
  min_max p q fp fq less =
      let lp = within entries v p fp in
      let lq = within entries v q fq in
      let vp = part_at entries v p lp in
      let vq = part_at entries v q lq in
      let sp = part_at entries s p lp in
      let sq = part_at entries s q lq in
      let mp = part_at entries m p lp in
      rw (vp, vq, sp, sq) (h.min_max (get_or entries p 0) (get_or entries q 0) (omega (arith, fp, vp)) (omega (arith, fq, vq)) (omega (arith, mp, sp, less)))

pub coherent : Coherent
coherent method v m seats s h entries = record {
  same_length = length-map entries (λ i. get_or s i 0) ∙ sym (length-map entries (λ i. get_or v i 0));
  total = refl;
  minima = minima method v m seats s h entries;
  outside = outside method v m seats s h entries;
  min_max = min_max method v m seats s h entries;
}
