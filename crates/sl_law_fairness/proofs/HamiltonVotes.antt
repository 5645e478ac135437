-- Hamilton's method and votes: of two entries one raised and one not, the remainders; and who leads.
use Rattle.std.proofs.Common.{◌≡◌, ◌≢◌, ℕ, ◌+◌, ◌-◌, ◌*◌, ◌<◌, ◌≤◌, ◌⊎◌, Bool, true, false, List, length, get_or, set, sum, cond, inl, inr, arith, refl, sym, ◌∙◌, subst}
use Rattle.std.specs.Prelude.{◌&&◌, nat_lt, nat_le}
use Rattle.std.proofs.Math.Nat.{mul-le-mul_left, mul-le-mul_right, div-add-mod'}
use Rattle.std.proofs.lemmas.Bool.{cases_lt, cases_eq, and_parts, and_from, ltb-true, lt-ltb, leb-true, le-leb, true≢false}
use Rattle.std.proofs.lemmas.List.{get_or-set_same, get_or-set_other}
use Rattle.std.proofs.lemmas.List.Sums.{sum_by-set}
use Rattle.sl_base_quotients.specs.Quotient.{AtMost}
use Rattle.sl_law_meaning.specs.methods.Field.{InField}
use Rattle.sl_law_meaning.specs.methods.Hamilton.{whole, remainder, is_leading, IsHamiltonAllocation}
use Rattle.sl_law_meaning.proofs.methods.SeatSums.{entry_le_sum, sum_mono, some_greater}
use Rattle.sl_law_meaning.proofs.methods.DivisorProofs.{in_range}
use Rattle.sl_law_meaning.proofs.methods.HamiltonProofs.{whole_low}
use Rattle.sl_law_fairness.specs.Hamilton.{HamiltonVotes, HamiltonOrdered}
use Rattle.sl_law_fairness.proofs.Sums.{whole_greatest}
use Rattle.sl_law_fairness.proofs.Quota.{hamilton_in_quota}
use Rattle.sl_law_fairness.proofs.Preferred.{two_entries}

-- what ranks no higher: the other is preferred, or neither is and the remainders say it
ranks : (b c : Bool) (r q : ℕ) →
    AtMost (cond b (record { num = 1; den = 0 }) (record { num = r + 1; den = 1 })) (cond c (record { num = 1; den = 0 }) (record { num = q + 1; den = 1 })) →
    (c ≡ true) ⊎ ((b ≡ false) × (r ≤ q))
ranks b true r q h = inl refl
ranks true false r q h = absurd (let l : 1 * 1 ≤ (q + 1) * 0 = h in omega (arith, l))
ranks false false r q h = inr (refl, (let l : (r + 1) * 1 ≤ (q + 1) * 1 = h in omega (arith, l)))

module _ (v : List ℕ) (seats : ℕ) where
  -- a share by its whole part and its remainder
  pub share : (j : ℕ) → sum v * whole v seats j + remainder v seats j ≡ seats * get_or v j 0
  share j = let parts = div-add-mod' (seats * get_or v j 0) (sum v) in omega (arith, parts)

  pub leading_parts : (j : ℕ) → is_leading v seats j ≡ true → (sum v < 2 * get_or v j 0) × (2 * whole v seats j ≤ seats)
  leading_parts j e =
      let parts = and_parts (nat_lt (sum v) (2 * get_or v j 0)) (nat_le (2 * whole v seats j) seats) e in
      (ltb-true (sum v) (2 * get_or v j 0) parts.0, leb-true (2 * whole v seats j) seats parts.1)

  pub leading_from : (j : ℕ) → sum v < 2 * get_or v j 0 → 2 * whole v seats j ≤ seats → is_leading v seats j ≡ true
  leading_from j more low =
      and_from (nat_lt (sum v) (2 * get_or v j 0)) (nat_le (2 * whole v seats j) seats) (lt-ltb (sum v) (2 * get_or v j 0) more) (le-leb (2 * whole v seats j) seats low)

  -- an entry with a majority has more votes than another
  most : (i j : ℕ) → i ≢ j → sum v < 2 * get_or v j 0 → get_or v i 0 < get_or v j 0
  most i j ne more = let two = two_entries v i j ne in omega (arith, two, more)

-- more votes, no smaller whole part
whole_ordered : (v : List ℕ) (seats i j : ℕ) → 0 < sum v → get_or v j 0 ≤ get_or v i 0 → whole v seats j ≤ whole v seats i
whole_ordered v seats i j pos le =
    let low = whole_low (seats * get_or v j 0) (sum v) in
    let up : seats * get_or v j 0 ≤ seats * get_or v i 0 = mul-le-mul_left seats le in
    whole_greatest (seats * get_or v i 0) (sum v) (whole v seats j) pos (omega (arith, low, up))

module _ (prefer : Bool) (v : List ℕ) (seats : ℕ) (s : List ℕ) (h : IsHamiltonAllocation prefer v seats s) where
  -- a seat is a whole one or one more
  pub at_most_one : (j : ℕ) → get_or s j 0 ≤ whole v seats j + 1
  at_most_one j =
      elim (cases_lt 0 (get_or v j 0)) [
        | inl f ↦ elim (h.shares j f) [ inl e ↦ omega (arith, e) | inr e ↦ omega (arith, e) ]
        | inr g ↦ (let z : get_or v j 0 ≡ 0 = omega arith in let e = h.outside j z in omega (arith, e))
      ]

  pub at_least : (j : ℕ) → whole v seats j ≤ get_or s j 0
  at_least j = (hamilton_in_quota prefer v seats s h j).0

  has_votes : (j : ℕ) → 0 < get_or s j 0 → InField v j
  has_votes j some =
      elim (cases_lt 0 (get_or v j 0)) [
        | inl f ↦ f
        | inr g ↦ absurd (let z : get_or v j 0 ≡ 0 = omega arith in let e = h.outside j z in omega (arith, e, some))
      ]

  -- i is raised and j is not
  pub compared : (i j : ℕ) → InField v i → InField v j → get_or s i 0 ≡ whole v seats i + 1 → get_or s j 0 ≡ whole v seats j →
      ((prefer && is_leading v seats i) ≡ true) ⊎ (((prefer && is_leading v seats j) ≡ false) × (remainder v seats j ≤ remainder v seats i))
  compared i j fi fj ei ej =
      ranks (prefer && is_leading v seats j) (prefer && is_leading v seats i) (remainder v seats j) (remainder v seats i) (h.largest i j fi fj ei ej)

pub hamilton_ordered : HamiltonOrdered
hamilton_ordered prefer v seats s h i j less =
    elim (cases_lt (get_or s i 0) (get_or s j 0)) [
      | inr g ↦ g
      | inl more ↦ absurd (
          let fj = has_votes prefer v seats s h j (omega (arith, more)) in
          let fi : InField v i = omega (arith, less) in
          let all = entry_le_sum v i in
          let up = whole_ordered v seats i j (omega (arith, all, fi)) (omega (arith, less)) in
          let high = at_most_one prefer v seats s h j in
          let low = at_least prefer v seats s h i in
          let same : whole v seats i ≡ whole v seats j = omega (arith, up, high, low, more) in
          let ej : get_or s j 0 ≡ whole v seats j + 1 = omega (arith, high, low, more, same) in
          let ei : get_or s i 0 ≡ whole v seats i = omega (arith, high, low, more, same) in
          elim (compared prefer v seats s h j i fj fi ej ei) [
            | inl lead ↦
                (let parts = leading_parts v seats j (and_parts prefer (is_leading v seats j) lead).1 in
                let ne : i ≢ j = λ e. let l = subst (λ k. get_or v k 0 < get_or v i 0) (sym e) less in omega (arith, l) in
                let top = most v seats i j ne parts.0 in omega (arith, top, less))
            | inr by ↦
                (let si = share v seats i in let sj = share v seats j in
                let si' = subst (λ n. sum v * n + remainder v seats i ≡ seats * get_or v i 0) same si in
                let le = by.1 in
                let total = entry_le_sum s j in
                let some : 0 < seats = omega (arith, total, h.total, ej) in
                let apart : seats * (get_or v j 0 + 1) ≤ seats * get_or v i 0 = mul-le-mul_left seats (omega (arith, less)) in
                omega (arith, si', sj, le, some, apart))
          ])
    ]

-- ---- one entry gains
module _ (prefer : Bool) (v w : List ℕ) (seats : ℕ) (s t : List ℕ) (one_length : length w ≡ length v)
    (hs : IsHamiltonAllocation prefer v seats s) (ht : IsHamiltonAllocation prefer w seats t)
    (i : ℕ) (gain : get_or v i 0 < get_or w i 0) (others : (j : ℕ) → j ≢ i → get_or w j 0 ≡ get_or v j 0) where
  -- the sum grows by just that
  sums : sum w + get_or v i 0 ≡ sum v + get_or w i 0
  sums =
      let within : i < length v = (let l = in_range w i (omega (arith, gain)) in omega (arith, l, one_length)) in
      let x = set v i (get_or w i 0) in
      let at : (j : ℕ) → get_or x j 0 ≡ get_or w j 0 = λ j. elim (cases_eq j i) [
        | inl e ↦ subst (λ k. get_or x k 0 ≡ get_or w k 0) (sym e) (get_or-set_same v i (get_or w i 0) 0 within)
        | inr ne ↦ (let a = get_or-set_other v i j (get_or w i 0) 0 ne in let b = others j ne in omega (arith, a, b))
      ] in
      let up = sum_mono x w (λ j. let a = at j in omega (arith, a)) in
      let down = sum_mono w x (λ j. let a = at j in omega (arith, a)) in
      let changed : sum x + get_or v i 0 ≡ sum v + get_or w i 0 = sum_by-set (λ n. n) v i (get_or w i 0) 0 within in
      omega (arith, up, down, changed)

  larger : sum v ≤ sum w
  larger = let e = sums in omega (arith, e, gain)

  module _ (lost : get_or t i 0 < get_or s i 0) where
    fi : InField v i
    fi = has_votes prefer v seats s hs i (omega (arith, lost))

    fi' : InField w i
    fi' = let f = fi in omega (arith, f, gain)

    pos : 0 < sum v
    pos = let le = entry_le_sum v i in let f = fi in omega (arith, le, f)

    within : whole v seats i ≤ seats
    within = let le = entry_le_sum s i in let low = at_least prefer v seats s hs i in omega (arith, le, low, hs.total)

    -- its whole part has not fallen
    rises : whole v seats i ≤ whole w seats i
    rises =
        let low = whole_low (seats * get_or v i 0) (sum v) in
        let p = pos in let l = larger in
        let grown : get_or w i 0 ≡ get_or v i 0 + (get_or w i 0 - get_or v i 0) = omega (arith, gain) in
        let wide : sum w ≡ sum v + (get_or w i 0 - get_or v i 0) = (let e = sums in omega (arith, e, gain)) in
        let small : (get_or w i 0 - get_or v i 0) * whole v seats i ≤ (get_or w i 0 - get_or v i 0) * seats = mul-le-mul_left (get_or w i 0 - get_or v i 0) within in
        let goal : (sum v + (get_or w i 0 - get_or v i 0)) * whole v seats i ≤ seats * (get_or v i 0 + (get_or w i 0 - get_or v i 0)) = omega (arith, low, small) in
        whole_greatest (seats * get_or w i 0) (sum w) (whole v seats i) (omega (arith, p, l))
        (subst (λ n. n * whole v seats i ≤ seats * get_or w i 0) (sym wide)
        (subst (λ n. (sum v + (get_or w i 0 - get_or v i 0)) * whole v seats i ≤ seats * n) (sym grown) goal))

    same : whole w seats i ≡ whole v seats i
    same = let a = rises in let b = at_least prefer w seats t ht i in let c = at_most_one prefer v seats s hs i in omega (arith, a, b, c, lost)

    raised : get_or s i 0 ≡ whole v seats i + 1
    raised = let a = rises in let b = at_least prefer w seats t ht i in let c = at_most_one prefer v seats s hs i in omega (arith, a, b, c, lost)

    kept : get_or t i 0 ≡ whole w seats i
    kept = let a = rises in let b = at_least prefer w seats t ht i in let c = at_most_one prefer v seats s hs i in omega (arith, a, b, c, lost)

    module _ (j : ℕ) (ne : j ≢ i) (more : get_or s j 0 < get_or t j 0) where
      fj' : InField w j
      fj' = has_votes prefer w seats t ht j (omega (arith, more))

      fj : InField v j
      fj = let f = fj' in let o = others j ne in omega (arith, f, o)

      -- the whole part of another has not risen
      falls : whole w seats j ≤ whole v seats j
      falls =
          let low = whole_low (seats * get_or w j 0) (sum w) in
          let o = others j ne in
          let low' = subst (λ n. sum w * whole w seats j ≤ seats * n) o low in
          let less : sum v * whole w seats j ≤ sum w * whole w seats j = mul-le-mul_right (whole w seats j) larger in
          whole_greatest (seats * get_or v j 0) (sum v) (whole w seats j) pos (omega (arith, low', less))

      same_j : whole w seats j ≡ whole v seats j
      same_j = let a = falls in let b = at_least prefer v seats s hs j in let c = at_most_one prefer w seats t ht j in omega (arith, a, b, c, more)

      raised_j : get_or t j 0 ≡ whole w seats j + 1
      raised_j = let a = falls in let b = at_least prefer v seats s hs j in let c = at_most_one prefer w seats t ht j in omega (arith, a, b, c, more)

      kept_j : get_or s j 0 ≡ whole v seats j
      kept_j = let a = falls in let b = at_least prefer v seats s hs j in let c = at_most_one prefer w seats t ht j in omega (arith, a, b, c, more)

      -- who leads before leads after, if it is i; and the other way, if it is j
      leads_still : is_leading v seats i ≡ true → is_leading w seats i ≡ true
      leads_still lead =
          let parts = leading_parts v seats i lead in
          let half = parts.0 in let low = parts.1 in let e = sums in let p = same in
          leading_from w seats i (omega (arith, half, e, gain)) (omega (arith, low, p))

      led_before : is_leading w seats j ≡ true → is_leading v seats j ≡ true
      led_before lead =
          let parts = leading_parts w seats j lead in
          let half = parts.0 in let low = parts.1 in let l = larger in let p = same_j in let o = others j ne in
          leading_from v seats j (omega (arith, half, l, o)) (omega (arith, low, p))

      not_both : is_leading w seats i ≡ true → is_leading w seats j ≡ true → ⊥
      not_both a b =
          let x = (leading_parts w seats i a).0 in let y = (leading_parts w seats j b).0 in
          let top = most w seats i j (λ e. ne (sym e)) y in
          let top' = most w seats j i ne x in omega (arith, top, top')

      -- without a lead, the remainders
      by_remainders : remainder v seats j ≤ remainder v seats i → remainder w seats i ≤ remainder w seats j → ⊥
      by_remainders one two =
          let x = get_or w i 0 - get_or v i 0 in
          let grown : get_or w i 0 ≡ get_or v i 0 + x = omega (arith, gain) in
          let wide : sum w ≡ sum v + x = (let e = sums in omega (arith, e, gain)) in
          let si = share v seats i in let sj = share v seats j in
          let ti = share w seats i in let tj = share w seats j in
          let ti1 = subst (λ n. sum w * n + remainder w seats i ≡ seats * get_or w i 0) same ti in
          let ti2 = subst (λ n. n * whole v seats i + remainder w seats i ≡ seats * get_or w i 0) wide ti1 in
          let ti3 = subst (λ n. (sum v + x) * whole v seats i + remainder w seats i ≡ seats * n) grown ti2 in
          let tj1 = subst (λ n. sum w * n + remainder w seats j ≡ seats * get_or w j 0) same_j tj in
          let tj2 = subst (λ n. n * whole v seats j + remainder w seats j ≡ seats * get_or w j 0) wide tj1 in
          let tj3 = subst (λ n. (sum v + x) * whole v seats j + remainder w seats j ≡ seats * n) (others j ne) tj2 in
          let total = entry_le_sum s i in let r = raised in
          let room : whole v seats i + 1 ≤ seats = omega (arith, total, r, hs.total) in
          let apart : x * (whole v seats i + 1) ≤ x * seats = mul-le-mul_left x room in
          let some : 0 < x = omega (arith, gain) in
          omega (arith, si, sj, ti3, tj3, one, two, apart, some)

      no_such : ⊥
      no_such =
          elim (compared prefer v seats s hs i j fi fj raised kept_j) [
            | inl lead ↦
                (let parts = and_parts prefer (is_leading v seats i) lead in
                let still = leads_still parts.1 in
                elim (compared prefer w seats t ht j i fj' fi' raised_j kept) [
                  | inl lead' ↦ not_both still (and_parts prefer (is_leading w seats j) lead').1
                  | inr by ↦ true≢false (sym (and_from prefer (is_leading w seats i) parts.0 still) ∙ by.0)
                ])
            | inr by ↦ elim (compared prefer w seats t ht j i fj' fi' raised_j kept) [
              | inl lead' ↦
                  (let parts = and_parts prefer (is_leading w seats j) lead' in
                  true≢false (sym (and_from prefer (is_leading v seats j) parts.0 (led_before parts.1)) ∙ by.0))
              | inr by' ↦ by_remainders by.1 by'.1
            ]
          ]

pub hamilton_votes : HamiltonVotes
hamilton_votes prefer v w seats s t one_length hs ht i gain others =
    elim (cases_lt (get_or t i 0) (get_or s i 0)) [
      | inr g ↦ g
      | inl lost ↦ absurd (
          let found = some_greater s t i (omega (arith, hs.total, ht.total)) lost in
          let j = found.0 in
          let more : get_or s j 0 < get_or t j 0 = found.1 in
          let ne : j ≢ i = λ e. let more' = subst (λ k. get_or s k 0 < get_or t k 0) e more in omega (arith, more', lost) in
          no_such prefer v w seats s t one_length hs ht i gain others lost j ne more)
    ]
