-- Of the entries with a seat, the one whose last quotient is least is overtaken by the least weight.
use Rattle.std.proofs.Common.{◌≡◌, ◌≢◌, ℕ, zero, suc, ◌+◌, ◌*◌, ◌-◌, ◌<◌, ◌≤◌, List, [], Option, Some, None, MatchOption, length, get_or, sum, arith, inl, inr, refl, subst}
use Rattle.std.proofs.lemmas.Bool.{cases_lt}
use Rattle.sl_base_quotients.specs.declared.method.Divisor.{Divisor}
use Rattle.sl_base_quotients.specs.Bounds.{HasWeight, IsLast, last_quotient}
use Rattle.sl_base_quotients.specs.Quotient.{AtMost, Quotient, quotient}
use Rattle.sl_base_quotients.specs.inner.QuotientLaws.{quotient_positive}
use Rattle.sl_base_quotients.proofs.Order.{AtMost-Below}
use Rattle.sl_law_meaning.specs.methods.Allocations.{IsDivisorAllocation}
use Rattle.sl_law_meaning.proofs.methods.DivisorProofs.{in_range}
use Rattle.sl_law_meaning.proofs.methods.RaisedSeats.{Contains-none}
use Rattle.sl_law_meaning.specs.methods.Ties.{Lists}
use Rattle.sl_ratio.proofs.Firsts.{Found}
use Rattle.sl_ratio.proofs.Searches.{last_next, last_search}
use Rattle.sl_ratio.specs.inner.Picks.{lesser}
use Rattle.sl_law_margins.specs.MissingVotes.{IsAllocation}
use Rattle.sl_law_margins.specs.inner.Claims.{IsLeastLast}
use Rattle.sl_law_margins.proofs.Claimants.{last_skipped, least_is}
use Rattle.sl_law_margins.specs.inner.Needed.{IsAbove, IsLeast, IsNeeded, IsRival}
use Rattle.sl_law_margins.proofs.Missing.{beyond_field}
use Rattle.sl_law_margins.proofs.NoMinima.{same_minima, zero_for}
use Rattle.sl_law_meaning.specs.methods.Field.{no_minima}

no_factor : (a d : ℕ) → 0 < a → a * d ≤ 0 → d ≡ 0
no_factor a zero pos h = omega arith
no_factor a (suc d) pos h = absurd (omega arith)

module _ (method : Divisor) (v s : List ℕ) (allocation : IsAllocation method v s) where
  pub without_minima : IsDivisorAllocation method v [] (sum s) s
  without_minima = same_minima method v (no_minima v) [] (sum s) s (zero_for v) allocation

  module _ (i j : ℕ) (other : j ≢ i) (last : IsLast method v s j) where
    positive : 0 < (last_quotient method v s j).num
    positive = quotient_positive method (get_or v j 0) (get_or s j 0 - 1) last.weight

    least_of : (k : ℕ) → IsRival [] s i k → AtMost (last_quotient method v s j) (last_quotient method v s k)
    least_of k rival = last.least k (beyond_field method v [] s i without_minima k rival.beyond) rival.beyond

    pub needed_over : (weight : Option ℕ) → MatchOption weight ((last_quotient method v s j).den ≡ 0) (IsLeast (IsAbove method (get_or s i 0) (last_quotient method v s j))) → IsNeeded method v [] s i (length v) weight
    needed_over (Some w) here = record {
      holds = (j, in_range v j last.weight, record { other = other; beyond = last.awarded }, here.holds);
      least = λ u o. here.least u (AtMost-Below (last_quotient method v s j) (last_quotient method v s o.0) (quotient method u (get_or s i 0)) positive (least_of o.0 o.2) o.3);
    }
    needed_over None infinite = λ k below rival.
        no_factor (last_quotient method v s j).num (last_quotient method v s k).den positive (let le = least_of k rival in let le = rw infinite at le in omega (arith, le))

  -- where nobody won the last seat, nobody has a seat
  found_all : (n : ℕ) → (o : Option Quotient) × Found (last_search method v s) n o
  found_all zero = (None, λ j below. absurd (omega arith))
  found_all (suc n) =
      let (o, h) = found_all n in
      let kept : (HasWeight v n × (0 < get_or s n 0) → ⊥) → Found (last_search method v s) (suc n) o =
      λ out. let end : n + 1 ≡ suc n = omega arith in subst (λ k. Found (last_search method v s) k o) end (last_skipped method v s n o out h) in
      elim (cases_lt 0 (get_or v n 0)) [
        | inr none ↦ (o, kept (λ d. let w = d.0 in omega (arith, w, none)))
        | inl weight ↦ elim (cases_lt 0 (get_or s n 0)) [
          | inr none ↦ (o, kept (λ d. let a = d.1 in omega (arith, a, none)))
          | inl awarded ↦ (
            Some (lesser o (last_quotient method v s n)),
            last_next method v s n (suc n) (get_or v n 0) (get_or s n 0) o (Some (lesser o (last_quotient method v s n))) refl refl (omega arith) weight (λ some. refl) (λ none. absurd (omega (arith, none, awarded))) h,
          )
        ]
      ]

  no_seats : (o : Option Quotient) → IsLeastLast method v s o → Lists (IsLast method v s) [] → (j : ℕ) → HasWeight v j → 0 < get_or s j 0 → ⊥
  no_seats None none lists j weight awarded = none j weight awarded
  no_seats (Some x) found lists j weight awarded = Contains-none found.0 (lists.has found.0 found.1)

  pub needed_none : (i : ℕ) → Lists (IsLast method v s) [] → IsNeeded method v [] s i (length v) None
  needed_none i lists = λ j below rival.
      let (o, h) = found_all (length v) in
      absurd (no_seats o (least_is method v s o h) lists j (beyond_field method v [] s i without_minima j rival.beyond) rival.beyond)
