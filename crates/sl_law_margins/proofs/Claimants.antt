-- The entries that won the last seat, and those with the next claim, as the searches list them.
use Rattle.std.proofs.Common.{◌≡◌, ℕ, ◌+◌, ◌-◌, ◌*◌, ◌<◌, ◌≤◌, true, false, List, [], ◌∷◌, ◌++◌, length, get_or, Option, Some, None, inl, inr, arith, refl, sym, subst, ◌∙◌, length-append}
use Rattle.std.specs.Prelude.{◌↔◌, Contains, IsTrue}
use Rattle.std.specs.List.Sorted.{IsStrictlyIncreasing}
use Rattle.std.specs.Ordering.{is_le, nat_cmp}
use Rattle.std.proofs.Math.ListN.{get_or-append}
use Rattle.std.proofs.Math.Seq.{get_or-append_seam}
use Rattle.std.proofs.lemmas.Bool.{cases_lt, cases_eq, false≢true}
use Rattle.std.proofs.lemmas.Bool.Decides.{nat_tests}
use Rattle.std.proofs.lemmas.List.Elements.{Contains-append_left, Contains-push, Contains-push_cases, Contains-get_or}
use Rattle.sl_base_quotients.specs.declared.method.Divisor.{Divisor}
use Rattle.sl_base_quotients.specs.Quotient.{Quotient, AtMost, compare, quotient}
use Rattle.sl_base_quotients.specs.Bounds.{HasWeight, IsLast, IsNext, last_quotient, next_quotient}
use Rattle.sl_base_quotients.specs.inner.QuotientLaws.{quotient_positive}
use Rattle.sl_base_quotients.proofs.Order.{AtMost-trans, AtMost-Below, Below-AtMost}
use Rattle.sl_ratio.proofs.Firsts.{Found, IsRanking, skipped}
use Rattle.sl_ratio.proofs.Searches.{last_search, next_search}
use Rattle.sl_law_meaning.specs.methods.Ties.{Lists}
use Rattle.sl_law_meaning.proofs.methods.RaisedSeats.{Contains-none}
use Rattle.sl_law_meaning.proofs.methods.DivisorProofs.{in_range}
use Rattle.sl_law_meaning.proofs.methods.SeatSums.{none_needed}
use Rattle.sl_law_margins.specs.MissingVotes.{IsAllocation}
use Rattle.sl_law_margins.specs.inner.Claims.{IsLeastLast, IsGreatestNext, IsInField, IsFair}

-- lists that grow by the next number
increasing_push : (xs : List ℕ) (n : ℕ) → ((i : ℕ) → Contains xs i → i < n) → IsStrictlyIncreasing xs → IsStrictlyIncreasing (xs ++ n ∷ [])
increasing_push xs n below h k l =
    let long : length (xs ++ n ∷ []) ≡ length xs + 1 = simp length-append in
    elim (cases_lt (k + 1) (length xs)) [
      | inl less ↦
          (let one : get_or (xs ++ n ∷ []) k 0 ≡ get_or xs k 0 = get_or-append xs (n ∷ []) 0 k (omega arith) in
          let two : get_or (xs ++ n ∷ []) (k + 1) 0 ≡ get_or xs (k + 1) 0 = get_or-append xs (n ∷ []) 0 (k + 1) less in
          let up = h k less in
          omega (arith, one, two, up))
      | inr g ↦
          (let end : length xs ≡ k + 1 = omega (arith, long) in
          let one : get_or (xs ++ n ∷ []) k 0 ≡ get_or xs k 0 = get_or-append xs (n ∷ []) 0 k (omega arith) in
          let two : get_or (xs ++ n ∷ []) (k + 1) 0 ≡ n = subst (λ j. get_or (xs ++ n ∷ []) j 0 ≡ n) end (get_or-append_seam xs n [] 0) in
          let up = below (get_or xs k 0) (Contains-get_or xs k 0 (omega arith)) in
          omega (arith, one, two, up))
    ]

-- the list has those below n of which P holds
abbrev pub ListsBelow : (ℕ → Type 0) → ℕ → List ℕ → Type 0
ListsBelow P n xs = Lists (λ i. (i < n) × P i) xs

module _ (P : ℕ → Type 0) where
  pub none_listed : ListsBelow P 0 []
  none_listed = record {
    in_order = λ k l. absurd (omega arith);
    has = λ i p. let l = p.0 in absurd (omega arith);
    has_only = λ i c. absurd (Contains-none i c);
  }

  pub listed_more : (n : ℕ) (xs : List ℕ) → P n → ListsBelow P n xs → ListsBelow P (n + 1) (xs ++ n ∷ [])
  listed_more n xs p h = record {
    in_order = increasing_push xs n (λ i c. (h.has_only i c).0) h.in_order;
    has = λ i q. elim (cases_eq i n) [
      | inl e ↦ subst (λ j. Contains (xs ++ n ∷ []) j) (sym e) (Contains-push xs n)
      | inr ne ↦ (let l = q.0 in Contains-append_left xs (n ∷ []) i (h.has i (omega arith, q.1)))
    ];
    has_only = λ i c. elim (Contains-push_cases xs n i c) [
      | inl c' ↦ (let q = h.has_only i c' in let l = q.0 in (omega arith, q.1))
      | inr e ↦ (omega arith, subst P e p)
    ];
  }

  pub listed_skipped : (n : ℕ) (xs : List ℕ) → (P n → ⊥) → ListsBelow P n xs → ListsBelow P (n + 1) xs
  listed_skipped n xs out h = record {
    in_order = h.in_order;
    has = λ i q. elim (cases_eq i n) [
      | inl e ↦ absurd (out (subst P e q.1))
      | inr ne ↦ (let l = q.0 in h.has i (omega arith, q.1))
    ];
    has_only = λ i c. let q = h.has_only i c in let l = q.0 in (omega arith, q.1);
  }

  pub all_listed : (n : ℕ) (xs : List ℕ) → ((i : ℕ) → P i → i < n) → ListsBelow P n xs → Lists P xs
  all_listed n xs within h = record { in_order = h.in_order; has = λ i p. h.has i (within i p, p); has_only = λ i c. (h.has_only i c).1 }

  pub none_at_all : ((i : ℕ) → P i → ⊥) → Lists P []
  none_at_all none = record { in_order = λ k l. absurd (omega arith); has = λ i p. absurd (none i p); has_only = λ i c. absurd (Contains-none i c) }

-- tests
pub le_test : (a b : ℕ) → IsTrue (is_le (nat_cmp a b)) ↔ (a ≤ b)
le_test a b =
    elim (cases_lt b a) [
      | inl l ↦ (let f : is_le (nat_cmp a b) ≡ false = gt_is a b l in ((λ h. absurd (false≢true (sym f ∙ h))), (λ h. absurd (omega arith))))
      | inr g ↦ ((λ h. g), (λ h. le_is a b g))
    ] where
      le_is : (a b : ℕ) → a ≤ b → is_le (nat_cmp a b) ≡ true
      le_is a b h = grind (arith, nat_tests)

      gt_is : (a b : ℕ) → b < a → is_le (nat_cmp a b) ≡ false
      gt_is a b h = grind (arith, nat_tests)

module _ (method : Divisor) (v s : List ℕ) where
  -- an entry that is no candidate leaves what was found
  least_first : IsRanking (last_search method v s)
  least_first = record {
    weak = λ x y h. omega arith;
    itself = λ x. omega arith;
    chain = λ x y i d. Below-AtMost x y (last_quotient method v s i) (quotient_positive method (get_or v i 0) (get_or s i 0 - 1) d.0);
  }

  greatest_first : IsRanking (next_search method v s)
  greatest_first = record {
    weak = λ x y h. omega arith;
    itself = λ x. omega arith;
    chain = λ x y i d h k. AtMost-Below (next_quotient method v s i) y x (quotient_positive method (get_or v i 0) (get_or s i 0) d) k h;
  }

  pub last_skipped : (n : ℕ) (found : Option Quotient) → (HasWeight v n × (0 < get_or s n 0) → ⊥) →
      Found (last_search method v s) n found → Found (last_search method v s) (n + 1) found
  last_skipped n found out h = skipped (last_search method v s) least_first n found out h

  pub next_skipped : (n : ℕ) (found : Option Quotient) → (HasWeight v n → ⊥) →
      Found (next_search method v s) n found → Found (next_search method v s) (n + 1) found
  next_skipped n found out h = skipped (next_search method v s) greatest_first n found out h

  -- what was found among all entries
  pub least_is : (found : Option Quotient) → Found (last_search method v s) (length v) found → IsLeastLast method v s found
  least_is None none = λ i w a. none i (in_range v i w) (w, a)
  least_is (Some x) (i, best, e) = (
    i,
    record { weight = best.candidate.0; awarded = best.candidate.1; least = λ j w a. best.highest j (in_range v j w) (w, a) },
    e,
  )

  pub greatest_is : (found : Option Quotient) → Found (next_search method v s) (length v) found → IsGreatestNext method v s found
  greatest_is None none = λ i w. none i (in_range v i w) w
  greatest_is (Some x) (i, best, e) = (i, record { weight = best.candidate; greatest = λ j w. best.highest j (in_range v j w) w }, e)

  -- who reaches the claim that was found is one of those
  pub last_iff : (x : Quotient) → IsLeastLast method v s (Some x) → (n : ℕ) →
      ((0 < get_or v n 0) × (0 < get_or s n 0) × AtMost (quotient method (get_or v n 0) (get_or s n 0 - 1)) x) ↔ IsLast method v s n
  last_iff x (i, last, e) n = (
    (λ h. record {
      weight = h.0;
      awarded = h.1;
      least = λ j w a.
          AtMost-trans (last_quotient method v s n) (last_quotient method v s i) (last_quotient method v s j)
          (quotient_positive method (get_or v i 0) (get_or s i 0 - 1) last.weight)
          (subst (λ (y : Quotient). AtMost (last_quotient method v s n) y) e h.2) (last.least j w a);
    }),
    (λ h. (h.weight, h.awarded, subst (λ (y : Quotient). AtMost (last_quotient method v s n) y) (sym e) (h.least i last.weight last.awarded))),
  )

  pub next_iff : (x : Quotient) → IsGreatestNext method v s (Some x) → (n : ℕ) →
      ((0 < get_or v n 0) × AtMost x (quotient method (get_or v n 0) (get_or s n 0))) ↔ IsNext method v s n
  next_iff x (i, next, e) n = (
    (λ h. record {
      weight = h.0;
      greatest = λ j w.
          AtMost-trans (next_quotient method v s j) (next_quotient method v s i) (next_quotient method v s n)
          (quotient_positive method (get_or v i 0) (get_or s i 0) next.weight) (next.greatest j w)
          (subst (λ (y : Quotient). AtMost y (next_quotient method v s n)) e h.1);
    }),
    (λ h. (h.weight, subst (λ (y : Quotient). AtMost y (next_quotient method v s n)) (sym e) (h.greatest i next.weight))),
  )

  -- no next claim is above a last one where the greatest is not above the least
  pub fair_iff : (last next : Quotient) → IsLeastLast method v s (Some last) → IsGreatestNext method v s (Some next) →
      IsTrue (is_le (compare next last)) ↔ IsFair method v s
  fair_iff last next (i, least, ei) (j, greatest, ej) = (
    (λ h k l fk fl a.
        let le = (le_test (next.num * last.den) (last.num * next.den)).0 h in
        let A = next_quotient method v s l in
        let B = last_quotient method v s k in
        let up : AtMost A next = subst (λ (y : Quotient). AtMost A y) (sym ej) (greatest.greatest l fl) in
        let down : AtMost last B = subst (λ (y : Quotient). AtMost y B) (sym ei) (least.least k fk a) in
        let pn : 0 < next.num = subst (λ (y : Quotient). 0 < y.num) (sym ej) (quotient_positive method (get_or v j 0) (get_or s j 0) greatest.weight) in
        let pl : 0 < last.num = subst (λ (y : Quotient). 0 < y.num) (sym ei) (quotient_positive method (get_or v i 0) (get_or s i 0 - 1) least.weight) in
        AtMost-trans A next B pn up (AtMost-trans next last B pl le down)),
    (λ fair.
        let le = fair i j least.weight greatest.weight least.awarded in
        let le' : AtMost next (last_quotient method v s i) = subst (λ (y : Quotient). AtMost y (last_quotient method v s i)) (sym ej) le in
        let le'' : AtMost next last = subst (λ (y : Quotient). AtMost next y) (sym ei) le' in
        (le_test (next.num * last.den) (last.num * next.den)).1 le''),
  )

  -- seats in the field alone, by claims that are fair, are an allocation
  pub allocation_iff : length s ≡ length v → IsInField v s → IsFair method v s ↔ IsAllocation method v s
  allocation_iff same inside = (
    (λ fair. record {
      same_length = same;
      total = refl;
      minima = λ i. omega (arith, none_needed (length v) i);
      outside = λ i z. inside i z ∙ sym (none_needed (length v) i);
      min_max = λ i j fi fj less. fair i j fi fj (omega (arith, none_needed (length v) i, less));
    }),
    (λ h i j fi fj a. h.min_max i j fi fj (omega (arith, none_needed (length v) i, a))),
  )

  pub inside_of : IsAllocation method v s → IsInField v s
  inside_of h i z = h.outside i z ∙ none_needed (length v) i
