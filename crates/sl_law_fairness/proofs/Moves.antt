-- One seat moved between entries: where the next quotient of the one is no smaller than the last one of the other, both are tied.
use Rattle.std.proofs.Common.{◌≡◌, ◌≢◌, ℕ, ◌+◌, ◌-◌, ◌<◌, ◌≤◌, List, length, get_or, set, sum, inl, inr, arith, sym, ◌∙◌, subst}
use Rattle.std.proofs.Math.ListN.{length-set}
use Rattle.std.proofs.lemmas.Bool.{cases_eq}
use Rattle.std.proofs.lemmas.List.{get_or-set_same, get_or-set_other}
use Rattle.std.proofs.lemmas.List.Sums.{sum_by-set}
use Rattle.sl_base_quotients.specs.declared.method.Divisor.{Divisor}
use Rattle.sl_base_quotients.specs.Quotient.{AtMost, quotient}
use Rattle.sl_base_quotients.specs.inner.QuotientLaws.{quotient_positive}
use Rattle.sl_base_quotients.proofs.Order.{AtMost-trans}
use Rattle.sl_law_meaning.specs.methods.Field.{InField}
use Rattle.sl_law_meaning.specs.methods.Allocations.{IsDivisorAllocation}
use Rattle.sl_law_meaning.specs.methods.Ties.{IsTied}
use Rattle.sl_law_meaning.proofs.methods.DivisorProofs.{in_range}
use Rattle.sl_law_fairness.proofs.Chains.{falls_weak, in_field}

-- what moves seats between two places of a list
pub record IsMoved (s t : List ℕ) (i j : ℕ) : Type 0 where
  pub same_length : length t ≡ length s
  pub same_sum : sum t ≡ sum s
  pub others : (k : ℕ) → k ≢ i → k ≢ j → get_or t k 0 ≡ get_or s k 0

-- any two numbers of the same sum may be put at two places
pub moved : (s : List ℕ) (i j a b : ℕ) → i ≢ j → i < length s → j < length s → a + b ≡ get_or s i 0 + get_or s j 0 →
    (t : List ℕ) × IsMoved s t i j × (get_or t i 0 ≡ a) × (get_or t j 0 ≡ b)
moved s i j a b ne li lj e =
    let x = set s i a in
    let lx = length-set s i a in
    let lj' : j < length x = omega (arith, lx) in
    let first : sum x + get_or s i 0 ≡ sum s + a = sum_by-set (λ n. n) s i a 0 li in
    let second : sum (set x j b) + get_or x j 0 ≡ sum x + b = sum_by-set (λ n. n) x j b 0 lj' in
    let xj = get_or-set_other s i j a 0 (λ h. ne (sym h)) in
    let here = get_or-set_other x j i b 0 ne in (
      set x j b,
      record {
        same_length = length-set x j b ∙ lx;
        same_sum = omega (arith, first, second, xj, e);
        others = λ k ni nj. get_or-set_other x j k b 0 nj ∙ get_or-set_other s i k a 0 ni;
      },
      here ∙ get_or-set_same s i a 0 li,
      get_or-set_same x j b 0 lj',
    )

module _ (method : Divisor) (v m : List ℕ) (seats : ℕ) (s : List ℕ) (h : IsDivisorAllocation method v m seats s)
    (i j : ℕ) (ne : i ≢ j) (above : get_or m i 0 < get_or s i 0) (fj : InField v j)
    (worth : AtMost (quotient method (get_or v i 0) (get_or s i 0 - 1)) (quotient method (get_or v j 0) (get_or s j 0))) where
  fi : InField v i
  fi = in_field method v m seats s h i above

  module _ (t : List ℕ) (mv : IsMoved s t i j) (ti : get_or t i 0 ≡ get_or s i 0 - 1) (tj : get_or t j 0 ≡ get_or s j 0 + 1) where
    -- no next quotient is greater than that of j was
    next_low : (q : ℕ) → InField v q → AtMost (quotient method (get_or v q 0) (get_or t q 0)) (quotient method (get_or v j 0) (get_or s j 0))
    next_low q fq =
        elim (cases_eq i q) [
          | inl e ↦ subst (λ x. AtMost (quotient method (get_or v x 0) (get_or t x 0)) (quotient method (get_or v j 0) (get_or s j 0))) e
              (subst (λ n. AtMost (quotient method (get_or v i 0) n) (quotient method (get_or v j 0) (get_or s j 0))) (sym ti) worth)
          | inr ni ↦ elim (cases_eq j q) [
            | inl e ↦ subst (λ x. AtMost (quotient method (get_or v x 0) (get_or t x 0)) (quotient method (get_or v j 0) (get_or s j 0))) e
                (falls_weak method v j (get_or s j 0) (get_or t j 0) fj (omega (arith, tj)))
            | inr nj ↦
                (let same = mv.others q (λ e. ni (sym e)) (λ e. nj (sym e)) in
                subst (λ n. AtMost (quotient method (get_or v q 0) n) (quotient method (get_or v j 0) (get_or s j 0))) (sym same)
                (AtMost-trans (quotient method (get_or v q 0) (get_or s q 0)) (quotient method (get_or v i 0) (get_or s i 0 - 1)) (quotient method (get_or v j 0) (get_or s j 0))
                (quotient_positive method (get_or v i 0) (get_or s i 0 - 1) fi) (h.min_max i q fi fq above) worth))
          ]
        ]

    -- and no last one is smaller
    last_high : (p : ℕ) → InField v p → get_or m p 0 < get_or t p 0 →
        AtMost (quotient method (get_or v j 0) (get_or s j 0)) (quotient method (get_or v p 0) (get_or t p 0 - 1))
    last_high p fp less =
        elim (cases_eq j p) [
          | inl e ↦
              (let back : get_or s j 0 ≡ get_or t j 0 - 1 = omega (arith, tj) in
              subst (λ x. AtMost (quotient method (get_or v j 0) (get_or s j 0)) (quotient method (get_or v x 0) (get_or t x 0 - 1))) e
              (subst (λ n. AtMost (quotient method (get_or v j 0) (get_or s j 0)) (quotient method (get_or v j 0) n)) back (omega arith)))
          | inr nj ↦ elim (cases_eq i p) [
            | inl e ↦
                (let fair = h.min_max i j fi fj above in
                let down = falls_weak method v i (get_or t i 0 - 1) (get_or s i 0 - 1) fi (omega (arith, ti)) in
                subst (λ x. AtMost (quotient method (get_or v j 0) (get_or s j 0)) (quotient method (get_or v x 0) (get_or t x 0 - 1))) e
                (AtMost-trans (quotient method (get_or v j 0) (get_or s j 0)) (quotient method (get_or v i 0) (get_or s i 0 - 1)) (quotient method (get_or v i 0) (get_or t i 0 - 1))
                (quotient_positive method (get_or v i 0) (get_or s i 0 - 1) fi) fair down))
            | inr ni ↦
                (let same = mv.others p (λ e. ni (sym e)) (λ e. nj (sym e)) in
                subst (λ n. AtMost (quotient method (get_or v j 0) (get_or s j 0)) (quotient method (get_or v p 0) (n - 1))) (sym same)
                (h.min_max p j fp fj (omega (arith, less, same))))
          ]
        ]

    no_less : (k : ℕ) → get_or m k 0 ≤ get_or t k 0
    no_less k =
        elim (cases_eq i k) [
          | inl e ↦ subst (λ x. get_or m x 0 ≤ get_or t x 0) e (omega (arith, ti, above))
          | inr ni ↦ elim (cases_eq j k) [
            | inl e ↦ subst (λ x. get_or m x 0 ≤ get_or t x 0) e (let low = h.minima j in omega (arith, tj, low))
            | inr nj ↦ (let same = mv.others k (λ e. ni (sym e)) (λ e. nj (sym e)) in let low = h.minima k in omega (arith, same, low))
          ]
        ]

    outside : (k : ℕ) → get_or v k 0 ≡ 0 → get_or t k 0 ≡ get_or m k 0
    outside k z =
        let ni : k ≢ i = λ e. let f = subst (λ x. InField v x) (sym e) fi in omega (arith, f, z) in
        let nj : k ≢ j = λ e. let f = subst (λ x. InField v x) (sym e) fj in omega (arith, f, z) in
        mv.others k ni nj ∙ h.outside k z

    allocated : IsDivisorAllocation method v m seats t
    allocated = record {
      same_length = mv.same_length ∙ h.same_length;
      total = mv.same_sum ∙ h.total;
      minima = no_less;
      outside = outside;
      min_max = λ p q fp fq less.
          AtMost-trans (quotient method (get_or v q 0) (get_or t q 0)) (quotient method (get_or v j 0) (get_or s j 0)) (quotient method (get_or v p 0) (get_or t p 0 - 1))
          (quotient_positive method (get_or v j 0) (get_or s j 0) fj) (next_low q fq) (last_high p fp less);
    }

  -- with a seat moved there it is another allocation
  pub other : (t : List ℕ) × IsDivisorAllocation method v m seats t × (get_or t i 0 ≡ get_or s i 0 - 1) × (get_or t j 0 ≡ get_or s j 0 + 1)
  other =
      let li = in_range v i fi in
      let lj = in_range v j fj in
      let mv = moved s i j (get_or s i 0 - 1) (get_or s j 0 + 1) ne (omega (arith, li, h.same_length)) (omega (arith, lj, h.same_length)) (omega (arith, above)) in
      (mv.0, allocated mv.0 mv.1 mv.2 mv.3, mv.2, mv.3)

  -- the one that has the last seat is tied, and so is the other
  pub holder_tied : IsTied (IsDivisorAllocation method v m seats) i
  holder_tied = let o = other in let e = o.2 in (s, h, (o.0, o.1, omega (arith, e, above)))

  pub taker_tied : IsTied (IsDivisorAllocation method v m seats) j
  taker_tied = let o = other in let e = o.3 in (o.0, o.1, (s, h, omega (arith, e)))
