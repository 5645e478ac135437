-- The searches for the two bounds: what a turn of each keeps, and what it has found at the end.
use Rattle.std.proofs.Common.{All, Bool, List, MatchOption, None, Option, Some, [], ap, arith, false, get_or, if◌then◌else◌, inl, inr, length, refl, subst, suc, sum, sym, true, ℕ, ◌*◌, ◌+◌, ◌-◌, ◌<◌, ◌∙◌, ◌∷◌, ◌≡◌, ◌≤◌}
use Rattle.std.proofs.lemmas.Bool.{cases_lt}
use Rattle.std.proofs.lemmas.Bool.Decides.{nat_tests}
use Rattle.std.proofs.lemmas.Grind.{get_or_default_zero}
use Rattle.std.proofs.lemmas.List.{get_or_past}
use Rattle.std.proofs.lemmas.List.Sums.{sum_by-cons}
use Rattle.std.specs.Ordering.{is_le, is_ge, nat_cmp}
use Rattle.sl_base_quotients.specs.declared.method.Divisor.{Divisor}
use Rattle.sl_base_quotients.specs.Quotient.{Quotient, AtMost, Below, quotient}
use Rattle.std.specs.Bool.{then_some}
use Rattle.sl_base_quotients.specs.Bounds.{HasWeight, IsLastBound, IsNextBound, last_quotient, next_quotient}
use Rattle.sl_ratio.specs.inner.Picks.{lesser, greater}
use Rattle.sl_base_quotients.specs.inner.QuotientLaws.{quotient_positive}
use Rattle.sl_base_quotients.proofs.Order.{Below-AtMost, AtMost-Below}
use Rattle.sl_ratio.proofs.Firsts.{Search, IsRanking, Found, skipped, kept, started, taken}

-- the least quotient among the last seats awarded, and the greatest among the next ones
abbrev pub last_search : Divisor → List ℕ → List ℕ → Search
last_search method v s = record {
  candidate = λ i. HasWeight v i × (0 < get_or s i 0);
  quotient_of = last_quotient method v s;
  reaches = AtMost;
  beats = Below;
}

abbrev pub next_search : Divisor → List ℕ → List ℕ → Search
next_search method v s = record {
  candidate = HasWeight v;
  quotient_of = next_quotient method v s;
  reaches = λ x y. AtMost y x;
  beats = λ x y. Below y x;
}

least_first : (method : Divisor) (v s : List ℕ) → IsRanking (last_search method v s)
least_first method v s = record {
  weak = λ x y h. omega arith;
  itself = λ x. omega arith;
  chain = λ x y i d. Below-AtMost x y (last_quotient method v s i) (quotient_positive method (get_or v i 0) (get_or s i 0 - 1) d.0);
}

greatest_first : (method : Divisor) (v s : List ℕ) → IsRanking (next_search method v s)
greatest_first method v s = record {
  weak = λ x y h. omega arith;
  itself = λ x. omega arith;
  chain = λ x y i d h k. AtMost-Below (next_quotient method v s i) y x (quotient_positive method (get_or v i 0) (get_or s i 0) d) k h;
}

-- the tests of a turn
le_is : (a b : ℕ) → a ≤ b → is_le (nat_cmp a b) ≡ true
le_is a b h = grind (arith, nat_tests)

gt_is : (a b : ℕ) → b < a → is_le (nat_cmp a b) ≡ false
gt_is a b h = grind (arith, nat_tests)

ge_is : (a b : ℕ) → b ≤ a → is_ge (nat_cmp a b) ≡ true
ge_is a b h = grind (arith, nat_tests)

lt_is : (a b : ℕ) → a < b → is_ge (nat_cmp a b) ≡ false
lt_is a b h = grind (arith, nat_tests)

-- a list reads 0 past its end, thus an entry with a weight stands in it
within : (xs : List ℕ) (i : ℕ) → 0 < get_or xs i 0 → i < length xs
within xs i h =
    elim (cases_lt i (length xs)) [
      | inl l ↦ l
      | inr g ↦ (let e : get_or xs i 0 ≡ 0 = get_or_past xs i 0 g in absurd (omega (arith, e, h)))
    ]

module _ (method : Divisor) (v s : List ℕ) where
  last_turn : (n : ℕ) (found : Option Quotient) → HasWeight v n → 0 < get_or s n 0 → Found (last_search method v s) n found →
      Found (last_search method v s) (n + 1) (Some (lesser found (last_quotient method v s n)))
  last_turn n None w a h = started (last_search method v s) (least_first method v s) n (w, a) h
  last_turn n (Some x) w a h =
      let y = last_quotient method v s n in
      elim (cases_lt (y.num * x.den) (x.num * y.den)) [
        | inl less ↦ (let e = gt_is (x.num * y.den) (y.num * x.den) less in
            rw e (taken (last_search method v s) (least_first method v s) n x (w, a) less h))
        | inr most ↦ (let e = le_is (x.num * y.den) (y.num * x.den) most in
            rw e (kept (last_search method v s) (least_first method v s) n x most h))
      ]

  next_turn : (n : ℕ) (found : Option Quotient) → HasWeight v n → Found (next_search method v s) n found →
      Found (next_search method v s) (n + 1) (Some (greater found (next_quotient method v s n)))
  next_turn n None w h = started (next_search method v s) (greatest_first method v s) n w h
  next_turn n (Some x) w h =
      let y = next_quotient method v s n in
      elim (cases_lt (x.num * y.den) (y.num * x.den)) [
        | inl more ↦ (let e = lt_is (x.num * y.den) (y.num * x.den) more in
            rw e (taken (next_search method v s) (greatest_first method v s) n x w more h))
        | inr most ↦ (let e = ge_is (x.num * y.den) (y.num * x.den) most in
            rw e (kept (next_search method v s) (greatest_first method v s) n x most h))
      ]

  -- a turn, as the loops have it: with this entry there are m, and it has the weight w and h seats
  last_more : (n m w h : ℕ) (found : Option Quotient) (ratio kept : Quotient) → w ≡ get_or v n 0 → h ≡ get_or s n 0 → m ≡ n + 1 →
      HasWeight v n → 0 < h → ratio ≡ quotient method w (h - 1) → kept ≡ lesser found ratio →
      Found (last_search method v s) n found → Found (last_search method v s) m (Some kept)
  last_more n m w h found ratio kept ew eh em weight some er ek so_far =
      let same : lesser found (last_quotient method v s n) ≡ kept = sym (ek ∙ ap (lesser found) (er ∙ (λ i. quotient method (ew i) (eh i - 1)))) in
      subst (λ (k : ℕ). Found (last_search method v s) k (Some kept)) (sym em)
      (subst (λ (y : Quotient). Found (last_search method v s) (n + 1) (Some y)) same (last_turn n found weight (omega arith) so_far))

  last_passed : (n m h : ℕ) (found : Option Quotient) → h ≡ get_or s n 0 → m ≡ n + 1 → h ≤ 0 →
      Found (last_search method v s) n found → Found (last_search method v s) m found
  last_passed n m h found eh em none so_far =
      subst (λ (k : ℕ). Found (last_search method v s) k found) (sym em)
      (skipped (last_search method v s) (least_first method v s) n found (λ d. let some = d.1 in omega arith) so_far)

  pub last_next : (n m w h : ℕ) (found now : Option Quotient) → w ≡ get_or v n 0 → h ≡ get_or s n 0 → m ≡ n + 1 → HasWeight v n →
      (0 < h → now ≡ Some (lesser found (quotient method w (h - 1)))) → (h ≡ 0 → now ≡ found) →
      Found (last_search method v s) n found → Found (last_search method v s) m now
  last_next n m w h found now ew eh em weight awarded passed so_far =
      let Finds : Option Quotient → Type 0 = Found (last_search method v s) m in
      let last = quotient method w (h - 1) in
      elim (cases_lt 0 h) [
        | inl some ↦ subst Finds (sym (awarded some)) (last_more n m w h found last (lesser found last) ew eh em weight some refl refl so_far)
        | inr none ↦ subst Finds (sym (passed (omega (arith, none)))) (last_passed n m h found eh em none so_far)
      ]

  pub next_more : (n m w h : ℕ) (found : Option Quotient) (ratio kept : Quotient) → w ≡ get_or v n 0 → h ≡ get_or s n 0 → m ≡ n + 1 →
      HasWeight v n → ratio ≡ quotient method w h → kept ≡ greater found ratio →
      Found (next_search method v s) n found → Found (next_search method v s) m (Some kept)
  next_more n m w h found ratio kept ew eh em weight er ek so_far =
      let same : greater found (next_quotient method v s n) ≡ kept = sym (ek ∙ ap (greater found) (er ∙ (λ i. quotient method (ew i) (eh i)))) in
      subst (λ (k : ℕ). Found (next_search method v s) k (Some kept)) (sym em)
      (subst (λ (y : Quotient). Found (next_search method v s) (n + 1) (Some y)) same (next_turn n found weight so_far))

  -- what the searches have found among all entries
  last_found : (x : Quotient) → Found (last_search method v s) (length v) (Some x) → IsLastBound method v s x
  last_found x (i, best, e) = (
    i,
    record {
      holds = record { weight = best.candidate.0; awarded = best.candidate.1; least = λ j w a. best.highest j (within v j w) (w, a) };
      before = λ j l h.
          let more = best.before j l (h.weight, h.awarded) in
          let least = h.least i best.candidate.0 best.candidate.1 in
          omega (arith, more, least);
    },
    e,
  )

  next_found : (x : Quotient) → Found (next_search method v s) (length v) (Some x) → IsNextBound method v s x
  next_found x (i, best, e) = (
    i,
    record {
      holds = record { weight = best.candidate; greatest = λ j w. best.highest j (within v j w) w };
      before = λ j l h.
          let more = best.before j l h.weight in
          let greatest = h.greatest i best.candidate in
          omega (arith, more, greatest);
    },
    e,
  )

  -- what they answer, after n entries that are all
  pub last_answer : (n : ℕ) (found : Option Quotient) → n ≡ length v → length s ≡ length v → All (λ w. 1 ≤ w) v →
      Found (last_search method v s) n found → MatchOption found (All (λ k. k ≡ 0) s) (IsLastBound method v s)
  last_answer n (Some x) e same positive h = last_found x (subst (λ (k : ℕ). Found (last_search method v s) k (Some x)) e h)
  last_answer n None e same positive h = λ k d l. elim (cases_lt 0 (get_or s k 0)) [
    | inl some ↦ absurd (h k (omega arith) (positive k 0 (omega arith), some))
    | inr none ↦ (let z = get_or_default_zero s k d l in omega (arith, z, none))
  ]

  pub next_answer : (n : ℕ) (found : Option Quotient) → n ≡ length v → All (λ w. 1 ≤ w) v →
      Found (next_search method v s) n found → MatchOption found (length v ≡ 0) (IsNextBound method v s)
  next_answer n (Some x) e positive h = next_found x (subst (λ (k : ℕ). Found (next_search method v s) k (Some x)) e h)
  next_answer n None e positive h = elim (cases_lt 0 (length v)) [
    | inl some ↦ absurd (h 0 (omega arith) (positive 0 0 some))
    | inr none ↦ omega arith
  ]

-- where no entry has a seat, there is none
pub sum_none : (xs : List ℕ) → All (λ k. k ≡ 0) xs → sum xs ≡ 0
sum_none [] h = refl
sum_none (x ∷ xs) h =
    let first : x ≡ 0 = h 0 0 (omega arith) in
    let rest : sum xs ≡ 0 = sum_none xs (λ k d l. h (suc k) d (omega arith)) in
    omega (arith, sum_by-cons (λ n. n) x xs)

-- two quotients where they are shown, and else nothing
pub pair_if : (shown : Bool) (pair : Quotient × Quotient) → then_some shown pair ≡ (if shown then Some pair else None)
pair_if true pair = refl
pair_if false pair = refl
