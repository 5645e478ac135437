-- The least number of further votes that is enough, from the least weight that overtakes a rival.
use Rattle.std.proofs.Common.{◌≡◌, ℕ, zero, suc, ◌+◌, ◌-◌, ◌*◌, ◌<◌, ◌≤◌, List, length, get_or, sum, Option, Some, None, MatchOption, min, inl, inr, arith, sym, subst}
use Rattle.std.proofs.lemmas.Bool.{cases_lt}
use Rattle.sl_base_quotients.specs.declared.method.Divisor.{Divisor}
use Rattle.sl_base_quotients.specs.declared.method.Divisor.TheVariants.{Adams, Dean, Hill, Webster, Jefferson}
use Rattle.sl_base_quotients.specs.Quotient.{Quotient, quotient}
use Rattle.sl_base_quotients.specs.Bounds.{last_quotient}
use Rattle.sl_base_quotients.specs.inner.QuotientLaws.{quotient_positive}
use Rattle.sl_base_quotients.proofs.Order.{Below-AtMost}
use Rattle.sl_law_meaning.specs.methods.Field.{InField}
use Rattle.sl_law_meaning.specs.methods.Allocations.{IsDivisorAllocation}
use Rattle.sl_law_meaning.proofs.methods.DivisorProofs.{in_range}
use Rattle.sl_law_fairness.proofs.Chains.{rises_weak, in_field}
use Rattle.sl_law_margins.specs.MissingVotes.{AreMissingWith, safe_seats, AreOthersSafeWith}
use Rattle.sl_law_margins.specs.inner.Needed.{IsLeast, IsAbove, lesser, IsRival, Overtakes, IsNeeded}
use Rattle.sl_law_margins.proofs.Gains.{has_weight, enough_by, too_few_without}

-- nothing is above an infinite quotient
not_above : (a b c d : ℕ) → b ≡ 0 → a * d < c * b → ⊥
not_above a b c d z h = let h' : a * d < c * 0 = rw z at h in omega (arith, h')

pub infinite_claim : (method : Divisor) (held w : ℕ) (claim : Quotient) → claim.den ≡ 0 → IsAbove method held claim w → ⊥
infinite_claim method held w claim z h =
    let q = quotient method w held in not_above claim.num claim.den q.num q.den z h

-- of all numbers below n + 1, n is the last
pub below_next : (P : ℕ → Type 0) (n j : ℕ) → j < n + 1 → (j < n → P j) → P n → P j
below_next P n j l before here =
    elim (cases_lt j n) [ inl less ↦ before less | inr g ↦ (let e : n ≡ j = omega arith in subst P e here) ]

module _ (method : Divisor) (v m s : List ℕ) (i : ℕ) where
  -- the search
  pub needed_none : IsNeeded method v m s i 0 None
  needed_none j l rival = absurd (omega arith)

  pub needed_skipped : (n : ℕ) (found : Option ℕ) → (IsRival m s i n → ⊥) → IsNeeded method v m s i n found → IsNeeded method v m s i (n + 1) found
  needed_skipped n None out h = λ j l. below_next (λ k. IsRival m s i k → (last_quotient method v s k).den ≡ 0) n j l (λ less. h j less) (λ rival. absurd (out rival))
  needed_skipped n (Some w) out h = record {
    holds = let o = h.holds in (o.0, omega (arith, o.1), o.2, o.3);
    least = λ u o. below_next (λ k. IsRival m s i k → IsAbove method (get_or s i 0) (last_quotient method v s k) u → w ≤ u) n o.0 o.1
        (λ less rival above. h.least u (o.0, less, rival, above)) (λ rival above. absurd (out rival)) o.2 o.3;
  }

  module _ (n : ℕ) (rival : IsRival m s i n) where
    first_one : (w : ℕ) → IsLeast (IsAbove method (get_or s i 0) (last_quotient method v s n)) w → IsNeeded method v m s i n None →
        IsNeeded method v m s i (n + 1) (Some w)
    first_one w here h = record {
      holds = (n, omega arith, rival, here.holds);
      least = λ u o. below_next (λ k. IsRival m s i k → IsAbove method (get_or s i 0) (last_quotient method v s k) u → w ≤ u) n o.0 o.1
          (λ less r above. absurd (infinite_claim method (get_or s i 0) u (last_quotient method v s o.0) (h o.0 less r) above)) (λ r above. here.least u above) o.2 o.3;
    }

    kept_one : (w : ℕ) → (last_quotient method v s n).den ≡ 0 → IsNeeded method v m s i n (Some w) → IsNeeded method v m s i (n + 1) (Some w)
    kept_one w z h = record {
      holds = let o = h.holds in (o.0, omega (arith, o.1), o.2, o.3);
      least = λ u o. below_next (λ k. IsRival m s i k → IsAbove method (get_or s i 0) (last_quotient method v s k) u → w ≤ u) n o.0 o.1
          (λ less r above. h.least u (o.0, less, r, above))
          (λ r above. absurd (infinite_claim method (get_or s i 0) u (last_quotient method v s n) z above)) o.2 o.3;
    }

    both : (w y : ℕ) → IsLeast (IsAbove method (get_or s i 0) (last_quotient method v s n)) y → IsNeeded method v m s i n (Some w) →
        IsNeeded method v m s i (n + 1) (Some (min w y))
    both w y here h = record {
      holds = elim (cases_lt y w) [
        | inl l ↦ (let e : min w y ≡ y = omega arith in subst (Overtakes method v m s i (n + 1)) (sym e) (n, omega arith, rival, here.holds))
        | inr g ↦ (let e : min w y ≡ w = omega arith in let o = h.holds in subst (Overtakes method v m s i (n + 1)) (sym e) (o.0, omega (arith, o.1), o.2, o.3))
      ];
      least = λ u o. below_next (λ k. IsRival m s i k → IsAbove method (get_or s i 0) (last_quotient method v s k) u → min w y ≤ u) n o.0 o.1
          (λ less r above. let le = h.least u (o.0, less, r, above) in omega (arith, le))
          (λ r above. let le = here.least u above in omega (arith, le)) o.2 o.3;
    }

    pub needed_more : (found weight : Option ℕ) →
        MatchOption weight ((last_quotient method v s n).den ≡ 0) (IsLeast (IsAbove method (get_or s i 0) (last_quotient method v s n))) →
        IsNeeded method v m s i n found → IsNeeded method v m s i (n + 1) (lesser found weight)
    needed_more None None z h = λ j l. below_next (λ k. IsRival m s i k → (last_quotient method v s k).den ≡ 0) n j l (λ less. h j less) (λ r. z)
    needed_more None (Some y) here h = first_one y here h
    needed_more (Some w) None z h = kept_one w z h
    needed_more (Some w) (Some y) here h = both w y here h

  -- what it finds
  module _ (h : IsDivisorAllocation method v m (sum s) s) where
    pub beyond_field : (j : ℕ) → get_or m j 0 < get_or s j 0 → InField v j
    beyond_field j beyond = in_field method v m (sum s) s h j beyond

    -- with the votes that it has, the entry overtakes nobody
    not_yet : (j : ℕ) → IsRival m s i j → IsAbove method (get_or s i 0) (last_quotient method v s j) (get_or v i 0) → ⊥
    not_yet j rival above =
        let fi : InField v i = has_weight method v s i j (get_or v i 0) above in
        let fair = h.min_max j i (beyond_field j rival.beyond) fi rival.beyond in
        omega (arith, fair, above)

    pub no_less_needed : (w : ℕ) → IsNeeded method v m s i (length v) (Some w) → get_or v i 0 ≤ w
    no_less_needed w needed =
        elim (cases_lt w (get_or v i 0)) [
          | inr g ↦ g
          | inl less ↦
              (let o = needed.holds in
              let up = rises_weak method w (get_or v i 0) (get_or s i 0) (omega arith) in
              absurd (not_yet o.0 o.2 (Below-AtMost (last_quotient method v s o.0) (quotient method w (get_or s i 0)) (quotient method (get_or v i 0) (get_or s i 0))
              (quotient_positive method (get_or v i 0) (get_or s i 0) (omega arith)) o.3 up)))
        ]

    module _ (within : i < length v) where
      pub missing_some : (w : ℕ) → IsNeeded method v m s i (length v) (Some w) → AreMissingWith method v m s i (Some (w - get_or v i 0))
      missing_some w needed =
          let low = no_less_needed w needed in
          let o = needed.holds in
          let whole : w ≡ get_or v i 0 + (w - get_or v i 0) = omega arith in (
            enough_by method v m s h i (w - get_or v i 0) within o.0 o.2 (subst (IsAbove method (get_or s i 0) (last_quotient method v s o.0)) whole o.3),
            λ y less. too_few_without method v m s h i y within (λ j rival above.
                let le = needed.least (get_or v i 0 + y) (j, in_range v j (beyond_field j rival.beyond), rival, above) in
                omega (arith, le, less, low)),
          )

      pub missing_none : IsNeeded method v m s i (length v) None → AreMissingWith method v m s i None
      missing_none infinite x =
          too_few_without method v m s h i x within (λ j rival above.
          infinite_claim method (get_or s i 0) (get_or v i 0 + x) (last_quotient method v s j) (infinite j (in_range v j (beyond_field j rival.beyond)) rival) above)

    -- who has nothing to lose
    pub all_safe : IsNeeded method v m s i (length v) None → AreOthersSafeWith method m s i
    all_safe infinite j ne =
        elim (cases_lt (get_or m j 0) (get_or s j 0)) [
          | inr g ↦ omega (arith, g)
          | inl beyond ↦
              (let z = infinite j (in_range v j (beyond_field j beyond)) (record { other = ne; beyond = beyond }) in
              let le = first_safe method (get_or v j 0) (get_or s j 0 - 1) z in omega (arith, le, beyond))
        ] where
          first_safe : (m : Divisor) (w a : ℕ) → (quotient m w a).den ≡ 0 → a + 1 ≤ safe_seats m
          first_safe Adams w a z = omega arith
          first_safe Dean w zero z = omega arith
          first_safe Dean w (suc a) z = absurd (omega arith)
          first_safe Hill w zero z = omega arith
          first_safe Hill w (suc a) z = absurd (omega arith)
          first_safe Webster w a z = absurd (omega arith)
          first_safe Jefferson w a z = absurd (omega arith)

    pub not_safe : (w : ℕ) → IsNeeded method v m s i (length v) (Some w) → AreOthersSafeWith method m s i → ⊥
    not_safe w needed safe =
        let o = needed.holds in
        let le = safe o.0 o.2.other in
        let beyond = o.2.beyond in
        infinite_claim method (get_or s i 0) w (last_quotient method v s o.0) (safe_first method (get_or v o.0 0) (get_or s o.0 0 - 1) (omega (arith, le, beyond))) o.3
      where
        safe_first : (m : Divisor) (u a : ℕ) → a + 1 ≤ safe_seats m → (quotient m u a).den ≡ 0
        safe_first Adams u a le = omega arith
        safe_first Dean u zero le = omega arith
        safe_first Dean u (suc a) le = absurd (omega arith)
        safe_first Hill u zero le = omega arith
        safe_first Hill u (suc a) le = absurd (omega arith)
        safe_first Webster u a le = absurd (omega arith)
        safe_first Jefferson u a le = absurd (omega arith)
