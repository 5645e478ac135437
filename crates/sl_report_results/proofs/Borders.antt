-- Equal claims, and the divisor on their border.
use Rattle.std.proofs.Common.{◌≡◌, ℕ, zero, suc, ◌-◌, ◌*◌, ◌<◌, ◌≤◌, Bool, true, false, List, get_or, Option, Some, None, is_some, arith, refl, sym, subst, ◌∙◌}
use Rattle.std.specs.Prelude.{◌≢◌, ◌↔◌, IsTrue, MatchOption, slice_get}
use Rattle.std.specs.Bool.{then_some}
use Rattle.std.specs.Ordering.{is_eq, nat_cmp}
use Rattle.std.proofs.lemmas.Bool.{false≢true}
use Rattle.std.proofs.lemmas.Bool.Decides.{nat_tests}
use Rattle.std.proofs.lemmas.Option.{get_or_from_slice_get, slice_get_within}
use Rattle.sl_base_quotients.specs.Bounds.{HasWeight, IsLast, IsNext, last_quotient, next_quotient}
use Rattle.sl_base_quotients.specs.Quotient.{AtMost, Quotient, SameQuotient, compare}
use Rattle.sl_base_quotients.specs.declared.method.Divisor.TheVariants.{Hill}
use Rattle.sl_base_quotients.specs.declared.method.Divisor.{Divisor}
use Rattle.sl_base_quotients.specs.inner.QuotientLaws.{quotient_positive}
use Rattle.sl_base_quotients.proofs.Order.{AtMost-trans}
use Rattle.sl_report_results.specs.Lots.{IsDrawn, IsOnBorder, TellsLot}
use Rattle.sl_report_results.specs.inner.Common.{IsClaim, IsCommon}
use Rattle.sl_law_meaning.specs.methods.Ties.{Lists}

are_equal : (a b : ℕ) → is_eq (nat_cmp a b) ≡ true → a ≡ b
are_equal a b h = grind (arith, nat_tests)

equal_is : (a b : ℕ) → a ≡ b → is_eq (nat_cmp a b) ≡ true
equal_is a b h = grind (arith, nat_tests)

-- the first of those that are listed
pub first_listed : (P : ℕ → Type 0) (xs : List ℕ) (i : ℕ) → Some i ≡ slice_get xs 0 → Lists P xs → P i
first_listed P xs i at all = all.has_only i (0, slice_get_within xs 0 i (sym at), get_or_from_slice_get xs 0 i i (sym at))

zero_factor : (a d : ℕ) → 0 < a → a * d ≤ 0 → d ≡ 0
zero_factor a zero pos h = refl
zero_factor a (suc d) pos h = absurd (omega arith)

times_zero : (a d : ℕ) → d ≡ 0 → a * d ≡ 0
times_zero a zero h = omega arith
times_zero a (suc d) h = absurd (omega (arith, h))

-- a denominator that is not that of an infinite quotient
pub positive_den : (b : Bool) (d : ℕ) → IsTrue b ↔ (d ≡ 0) → b ≡ false → 0 < d
positive_den b zero iff is = absurd (false≢true (sym is ∙ iff.1 refl))
positive_den b (suc d) iff is = omega arith

module _ (method : Divisor) (v s : List ℕ) where
  last_positive : (i : ℕ) → HasWeight v i → 0 < (last_quotient method v s i).num
  last_positive i w = quotient_positive method (get_or v i 0) (get_or s i 0 - 1) w

  next_positive : (i : ℕ) → HasWeight v i → 0 < (next_quotient method v s i).num
  next_positive i w = quotient_positive method (get_or v i 0) (get_or s i 0) w

  -- where a lot decided, all last claims equal all next ones
  same_claims : IsDrawn method v s → (i j : ℕ) → IsLast method v s i → IsNext method v s j → SameQuotient (last_quotient method v s i) (next_quotient method v s j)
  same_claims h i j won claims =
      let a = last_quotient method v s i in
      let b = last_quotient method v s h.last in
      let x = next_quotient method v s h.next in
      let y = next_quotient method v s j in
      let pb = last_positive h.last h.won.weight in
      let px = next_positive h.next h.claims.weight in
      let same : SameQuotient b x = h.equal in
      let bx : AtMost b x = omega (arith, same) in
      let xb : AtMost x b = omega (arith, same) in
      let up : AtMost a y =
      AtMost-trans a x y px (AtMost-trans a b x pb (won.least h.last h.won.weight h.won.awarded) bx) (claims.greatest h.next h.claims.weight) in
      let down : AtMost y a =
      AtMost-trans y b a pb (AtMost-trans y x b px (h.claims.greatest j claims.weight) xb) (h.won.least i won.weight won.awarded) in
      omega (arith, up, down)

  pub common_found : (x y : Quotient) → IsClaim (IsLast method v s) (last_quotient method v s) (Some x) → IsClaim (IsNext method v s) (next_quotient method v s) (Some y) →
      is_eq (compare x y) ≡ true → IsCommon method v s x
  common_found x y (i, won, e) (j, claims, e') h = record {
    last = i;
    next = j;
    won = won;
    claims = claims;
    value = e;
    equal = subst (λ (z : Quotient). SameQuotient x z) e' (are_equal (x.num * y.den) (y.num * x.den) h);
  }

  pub apart : (x y : Quotient) → IsClaim (IsLast method v s) (last_quotient method v s) (Some x) → IsClaim (IsNext method v s) (next_quotient method v s) (Some y) →
      is_eq (compare x y) ≡ false → IsDrawn method v s → ⊥
  apart x y (i, won, e) (j, claims, e') h drawn =
      let same = subst (λ (z : Quotient). SameQuotient x z) (sym e') (subst (λ (z : Quotient). SameQuotient z (next_quotient method v s j)) (sym e) (same_claims drawn i j won claims)) in
      false≢true (sym h ∙ equal_is (x.num * y.den) (y.num * x.den) same)

  pub common_or_none : (x y : Quotient) → IsClaim (IsLast method v s) (last_quotient method v s) (Some x) → IsClaim (IsNext method v s) (next_quotient method v s) (Some y) →
      (b : Bool) → b ≡ is_eq (compare x y) → MatchOption (then_some b x) (IsDrawn method v s → ⊥) (IsCommon method v s)
  common_or_none x y won claims true is = common_found x y won claims (sym is)
  common_or_none x y won claims false is = apart x y won claims (sym is)

  pub is_drawn : (x : Quotient) → IsCommon method v s x → IsDrawn method v s
  is_drawn x c = record {
    last = c.last;
    next = c.next;
    won = c.won;
    claims = c.claims;
    equal = subst (λ (z : Quotient). SameQuotient z (next_quotient method v s c.next)) c.value c.equal;
  }

  pub tells : (common : Option Quotient) → MatchOption common (IsDrawn method v s → ⊥) (IsCommon method v s) → TellsLot false method v s (Some (is_some common))
  tells None none = ((λ t. absurd (false≢true t)), (λ d. absurd (none d)))
  tells (Some x) c = ((λ t. is_drawn x c), (λ d. refl))

  pub on_border : (x : Quotient) → IsCommon method v s x → method ≢ Hill → 0 < x.den → IsOnBorder method v s x
  on_border x c plain finite =
      let y = next_quotient method v s c.next in
      let same : SameQuotient x y = c.equal in
      let yx : AtMost y x = omega (arith, same) in
      record {
        drawn = is_drawn x c;
        plain = plain;
        finite = finite;
        positive = subst (λ (z : Quotient). 0 < z.num) (sym c.value) (last_positive c.last c.won.weight);
        above_next = λ i w. AtMost-trans (next_quotient method v s i) y x (next_positive c.next c.claims.weight) (c.claims.greatest i w) yx;
        below_last = λ i w a. subst (λ (z : Quotient). AtMost z (last_quotient method v s i)) (sym c.value) (c.won.least i w a);
      }

  -- claims that are infinite have no divisor on their border
  pub no_border : (x : Quotient) → IsCommon method v s x → x.den ≡ 0 → (d : Quotient) → IsOnBorder method v s d → ⊥
  no_border x c infinite d b =
      let y = next_quotient method v s c.next in
      let px : 0 < x.num = subst (λ (z : Quotient). 0 < z.num) (sym c.value) (last_positive c.last c.won.weight) in
      let same : x.num * y.den ≡ y.num * x.den = c.equal in
      let none : y.num * x.den ≡ 0 = times_zero y.num x.den infinite in
      let endless : y.den ≡ 0 = zero_factor x.num y.den px (omega (arith, same, none)) in
      let within : y.num * d.den ≤ d.num * y.den = b.above_next c.next c.claims.weight in
      let nothing : d.num * y.den ≡ 0 = times_zero d.num y.den endless in
      let zero_den : d.den ≡ 0 = zero_factor y.num d.den (next_positive c.next c.claims.weight) (omega (arith, within, nothing)) in
      omega (arith, zero_den, b.finite)
