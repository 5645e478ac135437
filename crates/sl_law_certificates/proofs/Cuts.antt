-- A cut: what its test says, who is on it, and the seats without those that were won on it.
use Rattle.std.proofs.Common.{◌≡◌, nat_eq, ℕ, ◌+◌, ◌-◌, ◌<◌, ◌≤◌, ◌⊎◌, ◌||◌, true, false, List, [], length, get_or, sum, inl, inr, arith, refl, sym, ◌∙◌, subst, nat_lt}
use Rattle.std.specs.Prelude.{Contains}
use Rattle.std.proofs.lemmas.Bool.{cases_Bool, and_parts, and_from, or_cases, or_parts, or_left, or_right}
use Rattle.std.proofs.lemmas.Bool.{eqb-true, eq-eqb, ltb-true, ltb-false, lt-ltb, leb-true, le-leb}
use Rattle.std.proofs.lemmas.List.{get_or_past}
use Rattle.sl_base_quotients.specs.Quotient.{Quotient, AtMost, Below, SameQuotient}
use Rattle.sl_base_quotients.proofs.Order.{AtMost-trans, AtMost-Below, Below-AtMost, cases_below}
use Rattle.sl_law_meaning.specs.methods.Ties.{Distinct, Lists}
use Rattle.sl_law_meaning.specs.laws.Ladders.{Ladders, Has, AreFalling, IsTop, IsSettled, IsPeer}
use Rattle.sl_law_meaning.proofs.methods.RaisedSeats.{increasing_distinct, cases_Contains, Contains-none}
use Rattle.sl_law_meaning.proofs.methods.TieLaw.{below_length}
use Rattle.sl_law_meaning.proofs.methods.OneBatch.{has_below, falls_to}
use Rattle.sl_law_certificates.specs.Cuts.{Told, has_won, does_wait, last_rank, next_rank, fits_cut, is_cut, is_won_on, is_waiting_on, won_on, waiting_on, all_on, is_clear}
use Rattle.sl_law_certificates.specs.Laws.{IsCut, CutIsTested}
use Rattle.sl_law_certificates.proofs.Tests.{asked, if_asked, all_below, below_all, lists_filter, empty_is, first_of}
use Rattle.sl_law_certificates.proofs.Lowered.{lower, length-lower, lower_other, lower_at, sum-lower}

-- the last seat of entry i is on the cut; its next claim is
abbrev pub IsWonOn : Ladders → Told → ℕ → Type 0
IsWonOn l t i = (get_or l.base i 0 < get_or t.seats i 0) × SameQuotient t.cut (last_rank l t i)

abbrev pub IsWaitingOn : Ladders → Told → ℕ → Type 0
IsWaitingOn l t j = Has l j (get_or t.seats j 0) × SameQuotient (next_rank l t j) t.cut

-- a quotient no greater than another, and not equal to it, is below it
strictly : (x y : Quotient) → AtMost x y → (SameQuotient x y → ⊥) → Below x y
strictly x y le ne = elim (cases_below x y) [ inl l ↦ l | inr g ↦ absurd (ne (omega arith)) ]

pub cut_test : (l : Ladders) (t : Told) → IsCut l t → is_cut l t ≡ true
cut_test l t cut =
    and_from _ _ (eq-eqb (length t.seats) (length l.base) cut.on.same_length) (and_from _ _ (lt-ltb 0 t.cut.num cut.positive)
    (below_all (fits_cut l t) (length l.base) (λ i within.
    and_from _ _ (le-leb (get_or l.base i 0) (get_or t.seats i 0) (cut.on.above i))
    (and_from _ _
    (if_asked (has_won l t i) _ (λ won.
    let less = ltb-true (get_or l.base i 0) (get_or t.seats i 0) won in
    and_from _ _ (cut.on.there i less) (le-leb _ _ (cut.won i less))))
    (if_asked (does_wait l t i) _ (λ next. le-leb _ _ (cut.waits i next)))))))

module _ (l : Ladders) (law : AreFalling l) (t : Told) (is : is_cut l t ≡ true) where
  -- ---- what the test says

  as_long : length t.seats ≡ length l.base
  as_long = eqb-true (length t.seats) (length l.base) (and_parts _ _ is).0

  at : (i : ℕ) → i < length l.base → fits_cut l t i ≡ true
  at i less = all_below (fits_cut l t) (length l.base) (and_parts _ _ (and_parts _ _ is).1).1 i less

  inside : (i : ℕ) → get_or l.base i 0 < get_or t.seats i 0 → i < length l.base
  inside i less = let w = below_length t.seats i (get_or l.base i 0) less in omega (arith, w, as_long)

  at_won : (i : ℕ) → get_or l.base i 0 < get_or t.seats i 0 → Has l i (get_or t.seats i 0 - 1) × AtMost t.cut (last_rank l t i)
  at_won i less =
      let won = lt-ltb (get_or l.base i 0) (get_or t.seats i 0) less in
      let here = and_parts _ _ (asked (has_won l t i) _ (and_parts _ _ (and_parts _ _ (at i (inside i less))).1).0 won) in
      (here.0, leb-true _ _ here.1)

  pub cut : IsCut l t
  cut = record {
    on = record {
      same_length = as_long;
      above = λ i. elim (cases_Bool (nat_lt i (length l.base))) [
        | inl less ↦ leb-true (get_or l.base i 0) (get_or t.seats i 0) (and_parts _ _ (at i (ltb-true i (length l.base) less))).0
        | inr past ↦ past_end i past
      ];
      there = λ i less. (at_won i less).0;
    };
    positive = ltb-true 0 t.cut.num (and_parts _ _ (and_parts _ _ is).1).0;
    won = λ i less. (at_won i less).1;
    waits = λ j next. leb-true _ _
        (asked (does_wait l t j) _ (and_parts _ _ (and_parts _ _ (at j (law.within j (get_or t.seats j 0) next))).1).1 next);
  } where
    past_end : (i : ℕ) → nat_lt i (length l.base) ≡ false → get_or l.base i 0 ≤ get_or t.seats i 0
    past_end i past = omega (arith, get_or_past l.base i 0 (ltb-false i (length l.base) past))

  -- ---- who is on the cut

  pub won_test : (i : ℕ) → IsWonOn l t i → is_won_on l t i ≡ true
  won_test i w = and_from _ _ (lt-ltb _ _ w.0) (eq-eqb _ _ w.1)

  pub test_won : (i : ℕ) → is_won_on l t i ≡ true → IsWonOn l t i
  test_won i h = let p = and_parts _ _ h in (ltb-true _ _ p.0, eqb-true _ _ p.1)

  waiting_test : (i : ℕ) → IsWaitingOn l t i → is_waiting_on l t i ≡ true
  waiting_test i w = and_from _ _ w.0 (eq-eqb _ _ w.1)

  test_waiting : (i : ℕ) → is_waiting_on l t i ≡ true → IsWaitingOn l t i
  test_waiting i h = let p = and_parts _ _ h in (p.0, eqb-true _ _ p.1)

  pub winners : Lists (IsWonOn l t) (won_on l t)
  winners = lists_filter (IsWonOn l t) (is_won_on l t) (length l.base) (λ i w. inside i w.0) won_test test_won

  pub waiting : Lists (IsWaitingOn l t) (waiting_on l t)
  waiting =
      lists_filter (IsWaitingOn l t) (is_waiting_on l t) (length l.base) (λ i w. law.within i (get_or t.seats i 0) w.0) waiting_test test_waiting

  pub both : Lists (λ i. IsWonOn l t i ⊎ IsWaitingOn l t i) (all_on l t)
  both =
      let won = is_won_on l t in
      let waits = is_waiting_on l t in
      lists_filter (λ i. IsWonOn l t i ⊎ IsWaitingOn l t i) (λ i. won i || waits i) (length l.base)
      (λ i w. elim w [ inl a ↦ inside i a.0 | inr b ↦ law.within i (get_or t.seats i 0) b.0 ])
      (λ i w. elim w [ inl a ↦ or_left (won i) (waits i) (won_test i a) | inr b ↦ or_right (won i) (waits i) (waiting_test i b) ])
      (λ i h. elim (or_cases (won i) (waits i) h) [ inl a ↦ inl (test_won i a) | inr b ↦ inr (test_waiting i b) ])

  pub clear_cases : is_clear l t ≡ true → (won_on l t ≡ []) ⊎ (waiting_on l t ≡ [])
  clear_cases clear =
      elim (or_cases (nat_eq (length (won_on l t)) 0) (nat_eq (length (waiting_on l t)) 0) clear) [ inl e ↦ inl (empty_is _ e) | inr e ↦ inr (empty_is _ e) ]

  -- a tie has somebody who won and somebody who waits
  pub some_won : is_clear l t ≡ false → (i : ℕ) × Contains (won_on l t) i
  some_won tie = first_of (won_on l t) (or_parts (nat_eq (length (won_on l t)) 0) (nat_eq (length (waiting_on l t)) 0) tie).0

  pub some_waiting : is_clear l t ≡ false → (i : ℕ) × Contains (waiting_on l t) i
  some_waiting tie = first_of (waiting_on l t) (or_parts (nat_eq (length (won_on l t)) 0) (nat_eq (length (waiting_on l t)) 0) tie).1

  -- who won on the cut does not wait on it too
  pub not_both : (i : ℕ) → IsWonOn l t i → IsWaitingOn l t i → ⊥
  not_both i w h =
      let less = w.0 in
      let below = falls_to l law i (get_or t.seats i 0 - 1) (get_or t.seats i 0) (omega (arith, less)) (omega (arith, less)) h.0 in
      let same = w.1 in
      let here = h.1 in
      let back = AtMost-trans (last_rank l t i) t.cut (next_rank l t i) cut.positive (omega (arith, same)) (omega (arith, here)) in
      omega (arith, below, back)

  pub won_distinct : Distinct (won_on l t)
  won_distinct = increasing_distinct (won_on l t) winners.in_order

  pub all_distinct : Distinct (all_on l t)
  all_distinct = increasing_distinct (all_on l t) both.in_order

  -- ---- seats with a cut are a top, and settled where there is no tie

  pub cut_top : IsTop l (sum t.seats) t.seats
  cut_top = record {
    on = cut.on;
    total = refl;
    min_max = λ i j less next. AtMost-trans (next_rank l t j) t.cut (last_rank l t i) cut.positive (cut.waits j next) (cut.won i less);
  }

  pub clear_settled : is_clear l t ≡ true → IsSettled l t.seats
  clear_settled clear = record { on = cut.on; apart = by_cases (clear_cases clear) } where
    by_cases : (won_on l t ≡ []) ⊎ (waiting_on l t ≡ []) → (i j : ℕ) → get_or l.base i 0 < get_or t.seats i 0 → Has l j (get_or t.seats j 0) →
        Below (next_rank l t j) (last_rank l t i)
    by_cases (inl none) i j less next =
        AtMost-Below (next_rank l t j) t.cut (last_rank l t i) (law.positive j (get_or t.seats j 0) next) (cut.waits j next)
        (strictly t.cut (last_rank l t i) (cut.won i less) (λ same. Contains-none i (subst (λ xs. Contains xs i) none (winners.has i (less, same)))))
    by_cases (inr none) i j less next =
        Below-AtMost (next_rank l t j) t.cut (last_rank l t i) (law.positive i (get_or t.seats i 0 - 1) (cut.on.there i less))
        (strictly (next_rank l t j) t.cut (cut.waits j next) (λ same. Contains-none j (subst (λ xs. Contains xs j) none (waiting.has j (next, same)))))
        (cut.won i less)

  -- ---- the seats without those won on the cut

  won_have : (i : ℕ) → Contains (won_on l t) i → (i < length t.seats) × (0 < get_or t.seats i 0)
  won_have i ci = let less = (winners.has_only i ci).0 in (below_length t.seats i (get_or l.base i 0) less, omega (arith, less))

  abbrev pub low : List ℕ
  low = lower t.seats (won_on l t)

  pub low_at : (i : ℕ) → Contains (won_on l t) i → get_or low i 0 ≡ get_or t.seats i 0 - 1
  low_at i ci = lower_at t.seats (won_on l t) i won_distinct ci (won_have i ci).0

  pub low_other : (i : ℕ) → (Contains (won_on l t) i → ⊥) → get_or low i 0 ≡ get_or t.seats i 0
  low_other i out = lower_other t.seats (won_on l t) i out

  pub low_sum : sum low + length (won_on l t) ≡ sum t.seats
  low_sum = sum-lower t.seats (won_on l t) won_distinct won_have

  -- what is still won ranks above the cut
  higher : (i : ℕ) → get_or l.base i 0 < get_or low i 0 → Below t.cut (l.rank i (get_or low i 0 - 1))
  higher i less =
      elim (cases_Contains (won_on l t) i) [
        | inl ci ↦
            (let w = winners.has_only i ci in
            let e = low_at i ci in
            let a : ℕ = get_or t.seats i 0 - 1 in
            let two : get_or l.base i 0 < a = omega (arith, e, less) in
            let falls = falls_to l law i (a - 1) a (omega (arith, two)) (omega (arith, two)) (cut.on.there i w.0) in
            let same = w.1 in
            subst (λ n. Below t.cut (l.rank i (n - 1))) (sym e)
            (AtMost-Below t.cut (last_rank l t i) (l.rank i (a - 1)) cut.positive (omega (arith, same)) falls))
        | inr out ↦
            (let e = low_other i out in
            let less' : get_or l.base i 0 < get_or t.seats i 0 = omega (arith, e, less) in
            subst (λ n. Below t.cut (l.rank i (n - 1))) (sym e)
            (strictly t.cut (last_rank l t i) (cut.won i less') (λ same. out (winners.has i (less', same)))))
      ]

  -- and no claim that waits then ranks above it
  lower_claim : (j : ℕ) → Has l j (get_or low j 0) → AtMost (l.rank j (get_or low j 0)) t.cut
  lower_claim j next =
      elim (cases_Contains (won_on l t) j) [
        | inl cj ↦ (let same = (winners.has_only j cj).1 in subst (λ n. AtMost (l.rank j n) t.cut) (sym (low_at j cj)) (omega (arith, same)))
        | inr out ↦
            (let e = low_other j out in
            subst (λ n. AtMost (l.rank j n) t.cut) (sym e) (cut.waits j (subst (λ n. Has l j n) e next)))
      ]

  pub low_settled : IsSettled l low
  low_settled = record {
    on = record {
      same_length = length-lower t.seats (won_on l t) ∙ cut.on.same_length;
      above = λ i. elim (cases_Contains (won_on l t) i) [
        | inl ci ↦ (let less = (winners.has_only i ci).0 in omega (arith, less, low_at i ci))
        | inr out ↦ omega (arith, low_other i out, cut.on.above i)
      ];
      there = λ i less. elim (cases_Contains (won_on l t) i) [
        | inl ci ↦
            (let e = low_at i ci in
            let there = cut.on.there i (winners.has_only i ci).0 in
            has_below l law i (get_or low i 0 - 1) (get_or t.seats i 0 - 1) (omega (arith, less)) (omega (arith, e)) there)
        | inr out ↦ (let e = low_other i out in subst (λ n. Has l i (n - 1)) (sym e) (cut.on.there i (omega (arith, e, less))))
      ];
    };
    apart = λ i j less next.
        AtMost-Below (l.rank j (get_or low j 0)) t.cut (l.rank i (get_or low i 0 - 1)) (law.positive j (get_or low j 0) next) (lower_claim j next)
        (higher i less);
  }

  -- if somebody won on the cut, the peers are those on it
  pub low_peers : (i : ℕ) → Contains (won_on l t) i → Lists (IsPeer l low) (all_on l t)
  low_peers k ck = record { in_order = both.in_order; has = to; has_only = λ i ct. from i (both.has_only i ct) } where
    first_next : Has l k (get_or low k 0)
    first_next = subst (λ n. Has l k n) (sym (low_at k ck)) (cut.on.there k (winners.has_only k ck).0)

    first_same : AtMost t.cut (l.rank k (get_or low k 0))
    first_same = subst (λ n. AtMost t.cut (l.rank k n)) (sym (low_at k ck)) (let same = (winners.has_only k ck).1 in omega (arith, same))

    peer : (i : ℕ) → Has l i (get_or low i 0) → AtMost t.cut (l.rank i (get_or low i 0)) → IsPeer l low i
    peer i next le = record {
      next = next;
      greatest = λ j nj. AtMost-trans (l.rank j (get_or low j 0)) t.cut (l.rank i (get_or low i 0)) cut.positive (lower_claim j nj) le;
    }

    to : (i : ℕ) → IsPeer l low i → Contains (all_on l t) i
    to i p =
        let positive = law.positive k (get_or low k 0) first_next in
        let up = AtMost-trans t.cut (l.rank k (get_or low k 0)) (l.rank i (get_or low i 0)) positive first_same (p.greatest k first_next) in
        elim (cases_Contains (won_on l t) i) [
          | inl ci ↦ both.has i (inl (winners.has_only i ci))
          | inr out ↦
              (let e = low_other i out in
              let next = subst (λ n. Has l i n) e p.next in
              let le = cut.waits i next in
              let ge = subst (λ n. AtMost t.cut (l.rank i n)) e up in
              both.has i (inr (next, omega (arith, le, ge))))
        ]

    from : (i : ℕ) → IsWonOn l t i ⊎ IsWaitingOn l t i → IsPeer l low i
    from i (inl w) =
        let e = low_at i (winners.has i w) in
        let same = w.1 in
        peer i (subst (λ n. Has l i n) (sym e) (cut.on.there i w.0)) (subst (λ n. AtMost t.cut (l.rank i n)) (sym e) (omega (arith, same)))
    from i (inr h) =
        let e = low_other i (λ ci. not_both i (winners.has_only i ci) h) in
        let same = h.1 in
        peer i (subst (λ n. Has l i n) (sym e) h.0) (subst (λ n. AtMost t.cut (l.rank i n)) (sym e) (omega (arith, same)))

pub cut_is_tested : CutIsTested
cut_is_tested l law t = (cut l law t, cut_test l t)
