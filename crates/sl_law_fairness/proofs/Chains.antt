-- Steps of a chain of quotients: how they fall with the seats held and rise with the votes, and who has one.
use Rattle.std.proofs.Common.{◌≡◌, ℕ, zero, suc, ◌*◌, ◌<◌, ◌≤◌, List, length, get_or, inl, inr, arith, refl, subst}
use Rattle.std.proofs.lemmas.Bool.{cases_lt, cases_eq}
use Rattle.sl_base_quotients.specs.declared.method.Divisor.{Divisor}
use Rattle.sl_base_quotients.specs.declared.method.Divisor.TheVariants.{Adams, Dean, Hill, Webster, Jefferson}
use Rattle.sl_base_quotients.specs.Quotient.{AtMost, Below, quotient}
use Rattle.sl_base_quotients.specs.inner.QuotientLaws.{quotient_rises}
use Rattle.sl_law_meaning.specs.methods.Field.{InField, no_minima}
use Rattle.sl_law_meaning.specs.methods.Allocations.{IsDivisorAllocation}
use Rattle.sl_law_meaning.specs.laws.Ladders.{divisor_ladders}
use Rattle.sl_law_meaning.proofs.methods.SeatSums.{none_needed, length_zeros}
use Rattle.sl_law_meaning.proofs.methods.OneBatch.{falls_to, falls_to_weak}
use Rattle.sl_law_meaning.proofs.methods.DivisorProofs.{falling, has_of}

-- more seats held, no greater quotient
pub falls_weak : (method : Divisor) (v : List ℕ) (i a b : ℕ) → InField v i → a ≤ b →
    AtMost (quotient method (get_or v i 0) b) (quotient method (get_or v i 0) a)
falls_weak method v i a b f le =
    falls_to_weak (divisor_ladders method v (no_minima v)) (falling method v (no_minima v) (length_zeros (length v))) i a b
    (omega (arith, none_needed (length v) i)) le (has_of method v (no_minima v) i b f)

pub falls_strict : (method : Divisor) (v : List ℕ) (i a b : ℕ) → InField v i → a < b →
    Below (quotient method (get_or v i 0) b) (quotient method (get_or v i 0) a)
falls_strict method v i a b f less =
    falls_to (divisor_ladders method v (no_minima v)) (falling method v (no_minima v) (length_zeros (length v))) i a b
    (omega (arith, none_needed (length v) i)) less (has_of method v (no_minima v) i b f)

-- the denominator knows no weight
pub same_den : (method : Divisor) (v w a : ℕ) → (quotient method v a).den ≡ (quotient method w a).den
same_den Adams v w a = refl
same_den Dean v w a = refl
same_den Hill v w a = refl
same_den Webster v w a = refl
same_den Jefferson v w a = refl

over_zero : (m n d e : ℕ) → d ≤ 0 → d ≡ e → m * e ≤ n * d
over_zero m n zero zero le e = omega arith
over_zero m n zero (suc k) le e = absurd (omega arith)
over_zero m n (suc d) k le e = absurd (omega arith)

-- more weight, no smaller quotient
pub rises_weak : (method : Divisor) (v w a : ℕ) → v ≤ w → AtMost (quotient method v a) (quotient method w a)
rises_weak method v w a le =
    elim (cases_eq v w) [
      | inl e ↦ subst (λ x. AtMost (quotient method v a) (quotient method x a)) e (omega arith)
      | inr ne ↦ elim (cases_lt 0 (quotient method v a).den) [
        | inl pos ↦ (let up = quotient_rises method v w a (omega arith) pos in omega (arith, up))
        | inr none ↦ over_zero (quotient method v a).num (quotient method w a).num (quotient method v a).den (quotient method w a).den none (same_den method v w a)
      ]
    ]

-- who has more than its minimum is in the field
pub in_field : (method : Divisor) (v m : List ℕ) (seats : ℕ) (s : List ℕ) → IsDivisorAllocation method v m seats s →
    (i : ℕ) → get_or m i 0 < get_or s i 0 → InField v i
in_field method v m seats s h i less =
    elim (cases_lt 0 (get_or v i 0)) [
      | inl f ↦ f
      | inr g ↦ (let z : get_or v i 0 ≡ 0 = omega arith in let same = h.outside i z in absurd (omega (arith, same, less)))
    ]
