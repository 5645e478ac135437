-- The least weight by which an entry's last quotient is above the next one of every other, found entry by entry.
use Rattle.std.proofs.Common.{◌≡◌, ◌≢◌, ◌⊎◌, ℕ, zero, suc, ◌+◌, ◌-◌, ◌*◌, ◌<◌, ◌≤◌, List, get_or, max, inl, inr, arith, subst, ◌∙◌}
use Rattle.std.specs.Ordering.{nat_cmp, ord_max}
use Rattle.std.proofs.lemmas.Bool.{cases_lt, cases_eq}
use Rattle.std.proofs.lemmas.Bool.Decides.{nat_tests}
use Rattle.sl_base_quotients.specs.declared.method.Divisor.{Divisor}
use Rattle.sl_base_quotients.specs.Quotient.{Quotient, AtMost, quotient}
use Rattle.sl_base_quotients.specs.Bounds.{HasWeight, next_quotient}
use Rattle.sl_base_quotients.specs.inner.QuotientLaws.{quotient_positive}
use Rattle.sl_base_quotients.proofs.Order.{Below-AtMost}
use Rattle.sl_law_fairness.proofs.Chains.{rises_weak}
use Rattle.sl_law_margins.specs.inner.Needed.{IsLeast, IsAbove}
use Rattle.sl_law_margins.specs.inner.Kept.{Holds}
use Rattle.sl_law_margins.proofs.Missing.{below_next}

-- a greater weight is above it too
pub above_rises : (method : Divisor) (held u w : ℕ) (claim : Quotient) → 0 < w → u ≤ w → IsAbove method held claim u → IsAbove method held claim w
above_rises method held u w claim pos le h =
    Below-AtMost claim (quotient method u held) (quotient method w held) (quotient_positive method w held pos) h (rises_weak method u w held le)

module _ (method : Divisor) (v s : List ℕ) (i : ℕ) where
  pub kept_none : IsLeast (Holds method v s i 0) 1
  kept_none = record { holds = record { positive = omega arith; above = λ j l. absurd (omega (arith, l)) }; least = λ u h. let pos = h.positive in omega (arith, pos) }

  fewer : (n u : ℕ) → Holds method v s i (n + 1) u → Holds method v s i n u
  fewer n u h = record { positive = h.positive; above = λ j l. h.above j (omega (arith, l)) }

  pub kept_skipped : (n w : ℕ) → (n ≢ i → HasWeight v n → ⊥) → IsLeast (Holds method v s i n) w → IsLeast (Holds method v s i (n + 1)) w
  kept_skipped n w out h = record {
    holds = record {
      positive = h.holds.positive;
      above = λ j l. below_next (λ k. k ≢ i → HasWeight v k → IsAbove method (get_or s i 0 - 1) (next_quotient method v s k) w) n j l (λ less. h.holds.above j less) (λ ne f. absurd (out ne f));
    };
    least = λ u o. h.least u (fewer n u o);
  }

  pub kept_more : (n w y : ℕ) → n ≢ i → HasWeight v n → IsLeast (IsAbove method (get_or s i 0 - 1) (next_quotient method v s n)) y → IsLeast (Holds method v s i n) w →
      IsLeast (Holds method v s i (n + 1)) (max w y)
  kept_more n w y ne f here h =
      let some = h.holds.positive in
      let pos : 0 < max w y = omega (arith, some) in
      record {
        holds = record {
          positive = pos;
          above = λ j l. below_next (λ k. k ≢ i → HasWeight v k → IsAbove method (get_or s i 0 - 1) (next_quotient method v s k) (max w y)) n j l
              (λ less other has. above_rises method (get_or s i 0 - 1) w (max w y) (next_quotient method v s j) pos (omega arith) (h.holds.above j less other has))
              (λ other has. above_rises method (get_or s i 0 - 1) y (max w y) (next_quotient method v s n) pos (omega arith) here.holds);
        };
        least = λ u o.
            let one = h.least u (fewer n u o) in
            let two = here.least u (o.above n (omega arith) ne f) in
            omega (arith, one, two);
      }

  -- who it does not hold against
  abbrev pub Fails : ℕ → ℕ → Type 0
  Fails n u = (j : ℕ) × (j < n) × (j ≢ i) × HasWeight v j × AtMost (quotient method u (get_or s i 0 - 1)) (next_quotient method v s j)

  more : (n u : ℕ) → Holds method v s i n u → (n ≢ i → HasWeight v n → IsAbove method (get_or s i 0 - 1) (next_quotient method v s n) u) → Holds method v s i (n + 1) u
  more n u h last = record {
    positive = h.positive;
    above = λ j l. below_next (λ k. k ≢ i → HasWeight v k → IsAbove method (get_or s i 0 - 1) (next_quotient method v s k) u) n j l (λ less. h.above j less) last;
  }

  decide_above : (j u : ℕ) → IsAbove method (get_or s i 0 - 1) (next_quotient method v s j) u ⊎ AtMost (quotient method u (get_or s i 0 - 1)) (next_quotient method v s j)
  decide_above j u =
      let x = next_quotient method v s j in
      let y = quotient method u (get_or s i 0 - 1) in
      elim (cases_lt (x.num * y.den) (y.num * x.den)) [ inl l ↦ inl l | inr g ↦ inr g ]

  pub decide_holds : (u : ℕ) → 0 < u → (n : ℕ) → Holds method v s i n u ⊎ Fails n u
  decide_holds u pos zero = inl (record { positive = pos; above = λ j l. absurd (omega (arith, l)) })
  decide_holds u pos (suc n) =
      let e : n + 1 ≡ suc n = omega arith in
      elim (decide_holds u pos n) [
        | inr f ↦ inr (f.0, (let l = f.1 in omega (arith, l)), f.2, f.3, f.4)
        | inl h ↦ elim (cases_eq n i) [
          | inl same ↦ inl (subst (λ k. Holds method v s i k u) e (more n u h (λ ne. absurd (ne same))))
          | inr ne ↦ elim (cases_lt 0 (get_or v n 0)) [
            | inr none ↦ inl (subst (λ k. Holds method v s i k u) e (more n u h (λ ne f. absurd (omega (arith, f, none)))))
            | inl f ↦ elim (decide_above n u) [
              | inl above ↦ inl (subst (λ k. Holds method v s i k u) e (more n u h (λ ne f. above)))
              | inr worth ↦ inr (n, omega arith, ne, f, worth)
            ]
          ]
        ]
      ]

-- the greater of two numbers, as the code has it
pub ord_max_is : (a b : ℕ) → ord_max nat_cmp a b ≡ max a b
ord_max_is a b =
    elim (cases_lt b a) [
      | inl l ↦ (let e : ord_max nat_cmp a b ≡ a = left a b l in e ∙ omega (arith, l))
      | inr g ↦ (let e : ord_max nat_cmp a b ≡ b = right a b g in e ∙ omega (arith, g))
    ] where
      left : (a b : ℕ) → b < a → ord_max nat_cmp a b ≡ a
      left a b h = grind (arith, nat_tests)

      right : (a b : ℕ) → a ≤ b → ord_max nat_cmp a b ≡ b
      right a b h = grind (arith, nat_tests)
