-- The divisor that is found between the claims, by the numbers of units from the lowest to the highest.
use Rattle.std.proofs.Common.{◌≡◌, ℕ, zero, suc, ◌+◌, ◌-◌, ◌*◌, ◌^◌, ◌<◌, ◌≤◌, List, get_or, Option, Some, None, arith, refl, sym, ap, ◌∙◌, subst}
use Rattle.std.proofs.lemmas.Nat.{mul-le}
use Rattle.sl_base_quotients.specs.declared.method.Divisor.{Divisor}
use Rattle.sl_base_quotients.specs.declared.method.Divisor.TheVariants.{Adams, Dean, Hill, Webster, Jefferson}
use Rattle.sl_base_quotients.specs.Quotient.{Quotient, AtMost, SameQuotient, Below}
use Rattle.sl_base_quotients.specs.Bounds.{HasWeight, last_quotient, next_quotient}
use Rattle.sl_base_quotients.specs.inner.QuotientLaws.{quotient_positive}
use Rattle.sl_base_quotients.proofs.Order.{AtMost-Below, Below-AtMost}
use Rattle.sl_law_margins.specs.Decimals.{Number, value_of, scaled, HasDigits}
use Rattle.sl_law_margins.specs.Divisors.{as_quotient, Separates, IsShortest, unit_places, IsShortDivisor}
use Rattle.sl_law_margins.specs.inner.Claims.{IsLeastLast, IsGreatestNext}
use Rattle.sl_law_margins.specs.inner.Units.{units, IsFrom, IsUpTo, IsUnitsAbove, IsUnitsBelow, IsHighest, IsRoundest, IsRound}
use Rattle.sl_law_margins.proofs.Shortest.{ten_pos, positive, fewest_of, power_fewest, shortest_same}

-- nothing is above an infinite claim, and each divisor is below one
not_above : (a b c d : ℕ) → b ≡ 0 → a * d < c * b → ⊥
not_above a b c d z h = let h' : a * d < c * 0 = rw z at h in omega (arith, h')

infinite_too : (a b c d : ℕ) → 0 < a → b ≡ 0 → a * d ≤ c * b → d ≡ 0
infinite_too a b c zero pos z le = refl
infinite_too (suc a) b c (suc d) pos z le = absurd (let h : suc a * suc d ≤ c * 0 = rw z at le in omega (arith, h))
infinite_too zero b c (suc d) pos z le = absurd (omega arith)

below_infinite : (a b c d : ℕ) → 0 < b → 0 < c → d ≡ 0 → a * d < c * b
below_infinite a b c d pb pc z = rw z (let up = mul-le 1 1 c b pc pb in omega (arith, up))

factor : (a b : ℕ) → 0 < a * b → 0 < a
factor zero b h = absurd (omega arith)
factor (suc a) b h = omega arith

den_pos : (method : Divisor) (n : ℕ) → 0 < (as_quotient method (units method n)).den
den_pos Adams n = omega arith
den_pos Dean n = omega arith
den_pos Hill n = omega arith
den_pos Webster n = omega arith
den_pos Jefferson n = omega arith

-- no divisor is above an infinite next claim
pub none_above : (method : Divisor) (v s : List ℕ) (next : Quotient) → IsGreatestNext method v s (Some next) → next.den ≡ 0 → IsShortDivisor method v s None
none_above method v s next (i, is, e) z n h =
    let q = as_quotient method (units method n) in
    let above = h.above_next i is.weight in
    let above' = subst (λ (x : Quotient). Below x q) (sym e) above in
    not_above next.num next.den q.num q.den z above'

module _ (method : Divisor) (v s : List ℕ) (next : Quotient) (greatest : IsGreatestNext method v s (Some next))
    (last : Option Quotient) (least : IsLeastLast method v s last) (low : ℕ) (from : IsFrom (IsUnitsAbove method next) low) where
  -- from the lowest number on units are above each next claim
  above_next : (n : ℕ) → low ≤ n → (i : ℕ) → HasWeight v i → Below (next_quotient method v s i) (as_quotient method (units method n))
  above_next n le i f =
      let is = greatest.1 in
      let up : AtMost (next_quotient method v s i) next = subst (λ (x : Quotient). AtMost (next_quotient method v s i) x) (sym greatest.2) (is.greatest i f) in
      AtMost-Below (next_quotient method v s i) next (as_quotient method (units method n)) (quotient_positive method (get_or v i 0) (get_or s i 0) f) up ((from n).1 le)

  low_of : (n : ℕ) → Separates method v s (units method n) → low ≤ n
  low_of n h =
      let is = greatest.1 in
      (from n).0 (subst (λ (x : Quotient). Below x (as_quotient method (units method n))) (sym greatest.2) (h.above_next greatest.0 is.weight))

  -- a field has an entry
  abbrev entry : ℕ
  entry = greatest.0

  has_entry : HasWeight v entry
  has_entry = let is = greatest.1 in is.weight

  found_is : (x : ℕ) (d : Number) → SameQuotient (value_of d) (units method x) → Separates method v s (units method x) →
      ((k m up down : ℕ) → m < 10 ^ k → Separates method v s (scaled m up down) → HasDigits k (units method x)) → IsShortest method v s (value_of d)
  found_is x d same hx fewest =
      let px = positive method v s entry has_entry (units method x) hx in
      let up : 0 < x * 10 ^ d.places = mul-le 1 1 x (10 ^ d.places) px (ten_pos d.places) in
      let pd : 0 < d.digits = factor d.digits (10 ^ unit_places method) (omega (arith, up, same)) in
      shortest_same method v s entry has_entry (units method x) (value_of d) same (ten_pos (unit_places method)) pd hx fewest

  -- a finite last claim
  module _ (claim : Quotient) (is : last ≡ Some claim) (high : ℕ) (up_to : IsUpTo (IsUnitsBelow method claim) high) where
    bound : IsLeastLast method v s (Some claim)
    bound = subst (IsLeastLast method v s) is least

    below_last : (n : ℕ) → n ≤ high → (i : ℕ) → HasWeight v i → 0 < get_or s i 0 → Below (as_quotient method (units method n)) (last_quotient method v s i)
    below_last n le i f a =
        let b = bound in
        let one = b.1 in
        let least_one : AtMost claim (last_quotient method v s i) = subst (λ (x : Quotient). AtMost x (last_quotient method v s i)) (sym b.2) (one.least i f a) in
        Below-AtMost (as_quotient method (units method n)) claim (last_quotient method v s i) (quotient_positive method (get_or v i 0) (get_or s i 0 - 1) f)
        ((up_to n).1 le) least_one

    high_of : (n : ℕ) → Separates method v s (units method n) → n ≤ high
    high_of n h =
        let b = bound in
        let one = b.1 in
        (up_to n).0 (subst (λ (x : Quotient). Below (as_quotient method (units method n)) x) (sym b.2) (h.below_last b.0 one.weight one.awarded))

    bounded_some : (x : ℕ) (d : Number) → IsRoundest low high x → SameQuotient (value_of d) (units method x) → IsShortest method v s (value_of d)
    bounded_some x d r same =
        let hx : Separates method v s (units method x) = record { above_next = above_next x r.from; below_last = below_last x r.up_to } in
        found_is x d same hx (fewest_of method v s entry has_entry x r.zeros r.times r.multiple hx
        (λ m h. r.no_more m (low_of (m * 10 ^ (r.zeros + 1)) h) (high_of (m * 10 ^ (r.zeros + 1)) h)))

    bounded_none : high < low → IsShortDivisor method v s None
    bounded_none less n h = let a = low_of n h in let b = high_of n h in omega (arith, a, b, less)

  -- no finite last claim
  endless : IsHighest method last None → (n i : ℕ) → HasWeight v i → 0 < get_or s i 0 → Below (as_quotient method (units method n)) (last_quotient method v s i)
  endless free n i f a =
      let q = as_quotient method (units method n) in
      let x = last_quotient method v s i in
      let px = quotient_positive method (get_or v i 0) (get_or s i 0 - 1) f in
      below_infinite q.num q.den x.num x.den (den_pos method n) px (by last least free)
    where
      by : (found : Option Quotient) → IsLeastLast method v s found → IsHighest method found None → (last_quotient method v s i).den ≡ 0
      by None none free' = absurd (none i f a)
      by (Some claim) (j, one, e) z =
          let x = last_quotient method v s i in
          let y = last_quotient method v s j in
          infinite_too y.num y.den x.num x.den (quotient_positive method (get_or v j 0) (get_or s j 0 - 1) one.weight)
          (sym (ap (λ (q : Quotient). q.den) e) ∙ z) (one.least i f a)

  endless_some : IsHighest method last None → (x e : ℕ) (d : Number) → x ≡ 10 ^ e → low ≤ x → SameQuotient (value_of d) (units method x) → IsShortest method v s (value_of d)
  endless_some free x e d is le same =
      let hx : Separates method v s (units method x) = record { above_next = above_next x le; below_last = endless free x } in
      found_is x d same hx (power_fewest method v s entry has_entry x e is)

  -- what is found is a divisor of the fewest digits
  pub divided_some : (high : Option ℕ) → IsHighest method last high → (x : ℕ) (d : Number) → IsRound low high (Some x) →
      SameQuotient (value_of d) (units method x) → IsShortDivisor method v s (Some d)
  divided_some None free x d (p, le) same = endless_some free x p.0 d p.1 le same
  divided_some (Some high) h x d r same = by last refl h where
    by : (found : Option Quotient) → last ≡ found → IsHighest method found (Some high) → IsShortest method v s (value_of d)
    by None is h' = absurd h'
    by (Some claim) is h' = bounded_some claim is high h'.1 x d r same

  pub divided_none : (high : Option ℕ) → IsHighest method last high → IsRound low high None → IsShortDivisor method v s None
  divided_none None free r = absurd r
  divided_none (Some high) h less = by last refl h where
    by : (found : Option Quotient) → last ≡ found → IsHighest method found (Some high) → IsShortDivisor method v s None
    by None is h' = absurd h'
    by (Some claim) is h' = bounded_none claim is high h'.1 less
