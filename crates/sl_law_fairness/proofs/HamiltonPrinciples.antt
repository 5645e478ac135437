-- The principles of apportionment by Hamilton's method: whole parts, remainders and who leads go by the votes in proportion.
use Rattle.std.proofs.Common.{◌≡◌, ℕ, ◌+◌, ◌*◌, ◌/◌, ◌%◌, ◌<◌, ◌≤◌, Bool, true, false, List, length, get_or, map, sum, cond, inl, inr, arith, refl, sym, ap, subst, ◌∙◌}
use Rattle.std.specs.Prelude.{◌↔◌, ◌&&◌, nat_lt, nat_le, IsPermutation}
use Rattle.std.specs.List.{range_with_len}
use Rattle.std.proofs.Math.Nat.{mul-le-mul_left, le_of_mul-le-mul_left, mul-lt-mul_of_pos_left, lt_of_mul-lt-mul_left, mul-div-mul_left, mul-div_cancel_left}
use Rattle.std.proofs.lemmas.Bool.{cases_lt, true≢false}
use Rattle.std.proofs.lemmas.List.{length-map}
use Rattle.sl_base_quotients.specs.Quotient.{Quotient, AtMost}
use Rattle.sl_law_meaning.specs.methods.Field.{InField}
use Rattle.sl_law_meaning.specs.methods.Hamilton.{whole, remainder, is_leading, remainder_rank, IsHamiltonAllocation}
use Rattle.sl_law_meaning.proofs.methods.SeatSums.{some_greater}
use Rattle.sl_law_meaning.proofs.methods.HamiltonProofs.{at_map, sum_times}
use Rattle.sl_law_fairness.specs.Parts.{part}
use Rattle.sl_law_fairness.specs.Principles.{HamiltonBalanced, HamiltonExact, HamiltonHomogeneous, HamiltonAnonymous}
use Rattle.sl_law_fairness.proofs.HamiltonVotes.{share, leading_parts, leading_from, at_most_one, at_least}
use Rattle.sl_law_fairness.proofs.Parts.{part_at, part_past, within}
use Rattle.sl_law_fairness.proofs.Renamed.{same_sum}

pub hamilton_balanced : HamiltonBalanced
hamilton_balanced prefer v seats s h i j same =
    let e : whole v seats i ≡ whole v seats j = ap (λ x. seats * x / sum v) same in
    let high = at_most_one prefer v seats s h i in
    let low = at_least prefer v seats s h j in
    omega (arith, e, high, low)

-- what times a positive number is nothing is nothing
nothing : (c n : ℕ) → 0 < c → c * n ≡ 0 → n ≡ 0
nothing c n pos e = let le = le_of_mul-le-mul_left {m = n} {n = 0} {k = c} (omega (arith, e)) pos in omega (arith, le)

times_nothing : (c n : ℕ) → n ≡ 0 → c * n ≡ 0
times_nothing c n z = let e : c * n ≡ c * 0 = ap (λ k. c * k) z in omega (arith, e)

-- ---- exactness
module _ (prefer : Bool) (v : List ℕ) (seats : ℕ) (s : List ℕ) (some : 0 < sum v) (long : length s ≡ length v) (total : sum s ≡ seats)
    (shares : (i : ℕ) → sum v * get_or s i 0 ≡ seats * get_or v i 0) where
  whole_share : (i : ℕ) → whole v seats i ≡ get_or s i 0
  whole_share i = ap (λ n. n / sum v) (sym (shares i)) ∙ mul-div_cancel_left (get_or s i 0) some

  allocated : IsHamiltonAllocation prefer v seats s
  allocated = record {
    same_length = long;
    total = total;
    outside = λ i z. nothing (sum v) (get_or s i 0) some (shares i ∙ times_nothing seats (get_or v i 0) z);
    shares = λ i f. inl (sym (whole_share i));
    largest = λ i j fi fj ei ej. absurd (let e = whole_share i in omega (arith, e, ei));
  }

  unique : (t : List ℕ) → IsHamiltonAllocation prefer v seats t → (i : ℕ) → get_or t i 0 ≡ get_or s i 0
  unique t h i =
      let low : (j : ℕ) → get_or s j 0 ≤ get_or t j 0 = λ j. let e = whole_share j in let le = at_least prefer v seats t h j in omega (arith, e, le) in
      elim (cases_lt (get_or s i 0) (get_or t i 0)) [
        | inr g ↦ (let le = low i in omega (arith, le, g))
        | inl more ↦ absurd (
            let found = some_greater t s i (omega (arith, h.total, total)) more in
            let less : get_or t found.0 0 < get_or s found.0 0 = found.1 in
            let le = low found.0 in omega (arith, less, le))
      ]

pub hamilton_exact : HamiltonExact
hamilton_exact prefer v seats s some long total shares = (allocated prefer v seats s some long total shares, unique prefer v seats s some long total shares)

-- ---- votes multiplied by a number
abbrev infinite : Quotient
infinite = record { num = 1; den = 0 }

abbrev rank_of : ℕ → Quotient
rank_of r = record { num = r + 1; den = 1 }

scaled_rank : (b c : Bool) (k r q : ℕ) → 0 < k →
    AtMost (cond b infinite (rank_of r)) (cond c infinite (rank_of q)) ↔ AtMost (cond b infinite (rank_of (k * r))) (cond c infinite (rank_of (k * q)))
scaled_rank true true k r q pos = ((λ h. h), (λ h. h))
scaled_rank false true k r q pos =
    let one : (r + 1) * 0 ≤ 1 * 1 = omega arith in
    let two : (k * r + 1) * 0 ≤ 1 * 1 = omega arith in
    ((λ h. two), (λ h. one))
scaled_rank true false k r q pos =
    ((λ h. absurd (let l : 1 * 1 ≤ (q + 1) * 0 = h in omega (arith, l))), (λ h. absurd (let l : 1 * 1 ≤ (k * q + 1) * 0 = h in omega (arith, l))))
scaled_rank false false k r q pos = (up, down) where
  up : (r + 1) * 1 ≤ (q + 1) * 1 → (k * r + 1) * 1 ≤ (k * q + 1) * 1
  up h = let m : k * r ≤ k * q = mul-le-mul_left k (omega (arith, h)) in omega (arith, m)

  down : (k * r + 1) * 1 ≤ (k * q + 1) * 1 → (r + 1) * 1 ≤ (q + 1) * 1
  down h = let m = le_of_mul-le-mul_left {m = r} {n = q} {k = k} (omega (arith, h)) pos in omega (arith, m)

same_bool : (x y : Bool) → (x ≡ true → y ≡ true) → (y ≡ true → x ≡ true) → x ≡ y
same_bool true true a b = refl
same_bool true false a b = absurd (true≢false (sym (a refl)))
same_bool false true a b = absurd (true≢false (sym (b refl)))
same_bool false false a b = refl

module _ (prefer : Bool) (v : List ℕ) (seats : ℕ) (c : ℕ) (pos : 0 < c) where
  abbrev scaled : List ℕ
  scaled = map (λ x. c * x) v

  at : (i : ℕ) → get_or scaled i 0 ≡ c * get_or v i 0
  at = at_map (λ x. c * x) (omega arith) v

  none : (i : ℕ) → get_or v i 0 ≡ 0 → get_or scaled i 0 ≡ 0
  none i z = at i ∙ times_nothing c (get_or v i 0) z

  was_none : (i : ℕ) → get_or scaled i 0 ≡ 0 → get_or v i 0 ≡ 0
  was_none i z = nothing c (get_or v i 0) pos (sym (at i) ∙ z)

  up : (i : ℕ) → InField v i → InField scaled i
  up i f = elim (cases_lt 0 (get_or scaled i 0)) [ inl l ↦ l | inr g ↦ absurd (let z = was_none i (omega (arith, g)) in omega (arith, z, f)) ]

  down : (i : ℕ) → InField scaled i → InField v i
  down i f = elim (cases_lt 0 (get_or v i 0)) [ inl l ↦ l | inr g ↦ absurd (let z = none i (omega (arith, g)) in omega (arith, z, f)) ]

  wholes : (i : ℕ) → whole scaled seats i ≡ whole v seats i
  wholes i =
      let e : seats * (c * get_or v i 0) ≡ c * (seats * get_or v i 0) = omega arith in
      ap (λ n. seats * n / sum scaled) (at i) ∙ ap (λ n. n / sum scaled) e ∙ ap (λ n. c * (seats * get_or v i 0) / n) (sum_times c v)
      ∙ mul-div-mul_left (seats * get_or v i 0) (sum v) pos

  rests : (i : ℕ) → remainder scaled seats i ≡ c * remainder v seats i
  rests i =
      let one = subst (λ n. sum scaled * n + remainder scaled seats i ≡ seats * get_or scaled i 0) (wholes i) (share scaled seats i) in
      let two = subst (λ n. n * whole v seats i + remainder scaled seats i ≡ seats * get_or scaled i 0) (sum_times c v) one in
      let three = subst (λ n. c * sum v * whole v seats i + remainder scaled seats i ≡ seats * n) (at i) two in
      let times : c * (sum v * whole v seats i + remainder v seats i) ≡ c * (seats * get_or v i 0) = ap (λ n. c * n) (share v seats i) in
      omega (arith, three, times)

  leads : (i : ℕ) → is_leading scaled seats i ≡ is_leading v seats i
  leads i =
      let a = at i in
      let e = sum_times c v in
      let w = wholes i in
      same_bool (is_leading scaled seats i) (is_leading v seats i)
      (λ h.
      let parts = leading_parts scaled seats i h in
      let more = parts.0 in
      let low = parts.1 in
      leading_from v seats i (lt_of_mul-lt-mul_left c {m = sum v} {n = 2 * get_or v i 0} (omega (arith, a, e, more))) (omega (arith, w, low)))
      (λ h.
      let parts = leading_parts v seats i h in
      let more : c * sum v < c * (2 * get_or v i 0) = mul-lt-mul_of_pos_left parts.0 pos in
      let low = parts.1 in
      leading_from scaled seats i (omega (arith, a, e, more)) (omega (arith, w, low)))

  ranks : (i : ℕ) → remainder_rank prefer scaled seats i ≡ cond (prefer && is_leading v seats i) infinite (rank_of (c * remainder v seats i))
  ranks i = ap (λ b. cond (prefer && b) infinite (rank_of (remainder scaled seats i))) (leads i) ∙ ap (λ r. cond (prefer && is_leading v seats i) infinite (rank_of r)) (rests i)

  both : (i j : ℕ) → AtMost (remainder_rank prefer v seats j) (remainder_rank prefer v seats i) ↔ AtMost (remainder_rank prefer scaled seats j) (remainder_rank prefer scaled seats i)
  both i j =
      subst (λ q. AtMost (remainder_rank prefer v seats j) (remainder_rank prefer v seats i) ↔ AtMost q (remainder_rank prefer scaled seats i)) (sym (ranks j))
      (subst (λ q. AtMost (remainder_rank prefer v seats j) (remainder_rank prefer v seats i) ↔ AtMost (cond (prefer && is_leading v seats j) infinite (rank_of (c * remainder v seats j))) q) (sym (ranks i))
      (scaled_rank (prefer && is_leading v seats j) (prefer && is_leading v seats i) c (remainder v seats j) (remainder v seats i) pos))

pub hamilton_homogeneous : HamiltonHomogeneous
hamilton_homogeneous prefer v seats s c pos =
    let long = length-map v (λ x. c * x) in (
      λ h. record {
        same_length = h.same_length ∙ sym long;
        total = h.total;
        outside = λ i z. h.outside i (was_none prefer v seats c pos i z);
        shares = λ i f.
            let e = wholes prefer v seats c pos i in
            elim (h.shares i (down prefer v seats c pos i f)) [ inl a ↦ inl (omega (arith, a, e)) | inr a ↦ inr (omega (arith, a, e)) ];
        largest = λ i j fi fj ei ej.
            let wi = wholes prefer v seats c pos i in
            let wj = wholes prefer v seats c pos j in
            (both prefer v seats c pos i j).0 (h.largest i j (down prefer v seats c pos i fi) (down prefer v seats c pos j fj) (omega (arith, ei, wi)) (omega (arith, ej, wj)));
      },
      λ h. record {
        same_length = h.same_length ∙ long;
        total = h.total;
        outside = λ i z. h.outside i (none prefer v seats c pos i z);
        shares = λ i f.
            let e = wholes prefer v seats c pos i in
            elim (h.shares i (up prefer v seats c pos i f)) [ inl a ↦ inl (omega (arith, a, e)) | inr a ↦ inr (omega (arith, a, e)) ];
        largest = λ i j fi fj ei ej.
            let wi = wholes prefer v seats c pos i in
            let wj = wholes prefer v seats c pos j in
            (both prefer v seats c pos i j).1 (h.largest i j (up prefer v seats c pos i fi) (up prefer v seats c pos j fj) (omega (arith, ei, wi)) (omega (arith, ej, wj)));
      },
    )

-- ---- entries in another order

-- the rank of x votes of all
abbrev rank_at : Bool → ℕ → ℕ → ℕ → Quotient
rank_at prefer seats all x = cond (prefer && (nat_lt all (2 * x) && nat_le (2 * (seats * x / all)) seats)) infinite (rank_of (seats * x % all))

module _ (prefer : Bool) (v : List ℕ) (seats : ℕ) (s : List ℕ) (h : IsHamiltonAllocation prefer v seats s) (order : List ℕ)
    (perm : IsPermutation (range_with_len 0 (length v)) order) where
  abbrev place : ℕ → ℕ
  place p = get_or order p 0

  votes : sum (part order v) ≡ sum v
  votes = same_sum v order (length v) refl perm

  whole_of : (p : ℕ) → p < length order → whole (part order v) seats p ≡ whole v seats (place p)
  whole_of p l = ap (λ x. seats * x / sum (part order v)) (part_at order v p l) ∙ ap (λ all. seats * get_or v (place p) 0 / all) votes

  rank_by : (p : ℕ) → p < length order → remainder_rank prefer (part order v) seats p ≡ remainder_rank prefer v seats (place p)
  rank_by p l = ap (λ x. rank_at prefer seats (sum (part order v)) x) (part_at order v p l) ∙ ap (λ all. rank_at prefer seats all (get_or v (place p) 0)) votes

  field_of : (p : ℕ) → InField (part order v) p → InField v (place p)
  field_of p f = let e = part_at order v p (within order v p f) in omega (arith, e, f)

  outside : (p : ℕ) → get_or (part order v) p 0 ≡ 0 → get_or (part order s) p 0 ≡ 0
  outside p z =
      elim (cases_lt p (length order)) [
        | inl l ↦ part_at order s p l ∙ h.outside (place p) (sym (part_at order v p l) ∙ z)
        | inr g ↦ part_past order s p g
      ]

  in_order : IsHamiltonAllocation prefer (part order v) seats (part order s)
  in_order = record {
    same_length = length-map order (λ i. get_or s i 0) ∙ sym (length-map order (λ i. get_or v i 0));
    total = same_sum s order (length v) h.same_length perm ∙ h.total;
    outside = outside;
    shares = λ p f.
        let l = within order v p f in
        let e = whole_of p l in
        let a = part_at order s p l in
        elim (h.shares (place p) (field_of p f)) [ inl x ↦ inl (omega (arith, x, e, a)) | inr x ↦ inr (omega (arith, x, e, a)) ];
    largest = λ p q fp fq ep eq.
        let lp = within order v p fp in
        let lq = within order v q fq in
        let wp = whole_of p lp in
        let wq = whole_of q lq in
        let sp = part_at order s p lp in
        let sq = part_at order s q lq in
        subst (λ r. AtMost r (remainder_rank prefer (part order v) seats p)) (sym (rank_by q lq))
        (subst (λ r. AtMost (remainder_rank prefer v seats (place q)) r) (sym (rank_by p lp))
        (h.largest (place p) (place q) (field_of p fp) (field_of q fq) (omega (arith, ep, wp, sp)) (omega (arith, eq, wq, sq))));
  }

pub hamilton_anonymous : HamiltonAnonymous
hamilton_anonymous prefer v seats s h order perm = in_order prefer v seats s h order perm
