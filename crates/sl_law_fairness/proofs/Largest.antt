-- Who sits where winners are covered: those with the largest shares.
use Rattle.std.proofs.Common.{◌≡◌, ℕ, zero, suc, ◌+◌, ◌*◌, ◌≤◌, ◌&&◌, Bool, true, false, List, [], ◌∷◌, Some, is_none, length, map, filter, get_or, nat_eq, inl, inr, arith, refl, sym, ap, subst, ◌∙◌}
use Rattle.std.specs.Prelude.{if◌then◌else◌, zip, flat_map, filter_map, slice_get}
use Rattle.std.specs.List.{AllByRecursion as Every, enumerate_from}
use Rattle.std.proofs.lemmas.Bool.{cases_Bool, cases_eq, cond-true, cond-false, or_cases, or_left, or_right, eq-eqb, eqb-true, false_from_ne_true, both_ways, false≢true}
use Rattle.std.proofs.lemmas.Option.{none-some, same_Some, get_or_from_slice_get}
use Rattle.sl_law_meaning.specs.declared.election.Win.{Win}
use Rattle.sl_law_meaning.specs.declared.table.Placed.{Placed}
use Rattle.sl_law_meaning.specs.declared.table.Placed.TheVariants as placed
use Rattle.sl_law_meaning.specs.returns.Election.{Election}
use Rattle.sl_law_meaning.specs.returns.Facts.{lists_of, is_in, is_of, is_eligible, has_eligible_list}
use Rattle.sl_law_meaning.specs.methods.Ties.{Choice, Decided, Tied}
use Rattle.sl_law_meaning.specs.meaning.Seating.{winners_of, IsSeating, tie_of, seated_on, cover_place, covered_places, cover_table}
use Rattle.sl_law_meaning.proofs.meaning.AwardedEntries.{every_at}
use Rattle.sl_law_meaning.proofs.meaning.CoveredWinners.{chosen_numbers, IsNumbered, are_numbered, table_without_faults}
use Rattle.sl_law_meaning.proofs.meaning.DistinctLists.{every_weaker, every_passes, every_both}
use Rattle.sl_law_meaning.proofs.meaning.Members.{In, in_filter, zip_each, among, among_piece, some_piece}
use Rattle.sl_law_fairness.specs.Winners.{CoverSeatsLargest}
use Rattle.sl_law_fairness.proofs.Bases.{end_of}
use Rattle.sl_law_fairness.proofs.Covering.{covered_end}
use Rattle.sl_law_fairness.proofs.Amounts.{cell_at}

-- ---- who is seated stands among the winners of the list, beside a 1

record IsSeatedAt (won : List (ℕ × Win)) (s : List ℕ) (k : ℕ) : Type 0 where
  pub place : ℕ
  pub winner : Win
  pub stands : slice_get won place ≡ Some (k, winner)
  pub seated : get_or s place 0 ≡ 1

one_later : (y : ℕ × Win) (won : List (ℕ × Win)) (n : ℕ) (s : List ℕ) (k : ℕ) → IsSeatedAt won s k → IsSeatedAt (y ∷ won) (n ∷ s) k
one_later y won n s k h = record { place = suc h.place; winner = h.winner; stands = h.stands; seated = h.seated }

chosen_yes : (y : ℕ × Win) (won : List (ℕ × Win)) (n : ℕ) (s : List ℕ) → nat_eq n 1 ≡ true → chosen_numbers (y ∷ won) (n ∷ s) ≡ y.0 ∷ chosen_numbers won s
chosen_yes y won n s one = ap (map (λ y. y.0.0)) (cond-true (nat_eq n 1) ((y, n) ∷ filter (λ y. nat_eq y.1 1) (zip won s)) (filter (λ y. nat_eq y.1 1) (zip won s)) one)

chosen_no : (y : ℕ × Win) (won : List (ℕ × Win)) (n : ℕ) (s : List ℕ) → nat_eq n 1 ≡ false → chosen_numbers (y ∷ won) (n ∷ s) ≡ chosen_numbers won s
chosen_no y won n s other = ap (map (λ y. y.0.0)) (cond-false (nat_eq n 1) ((y, n) ∷ filter (λ y. nat_eq y.1 1) (zip won s)) (filter (λ y. nat_eq y.1 1) (zip won s)) other)

seated_at : (won : List (ℕ × Win)) (s : List ℕ) (k : ℕ) → among (chosen_numbers won s) k ≡ true → IsSeatedAt won s k
seated_at [] s k is = absurd (false≢true is)
seated_at (y ∷ won) [] k is = absurd (false≢true is)
seated_at (y ∷ won) (n ∷ s) k is =
    elim (cases_Bool (nat_eq n 1)) [
      | inl one ↦
          elim (or_cases (nat_eq k y.0) (among (chosen_numbers won s) k) (sym (ap (λ ks. among ks k) (chosen_yes y won n s one)) ∙ is)) [
            | inl this ↦ record { place = 0; winner = y.1; stands = ap (λ (m : ℕ). Some (m, y.1)) (sym (eqb-true k y.0 this)); seated = eqb-true n 1 one }
            | inr other ↦ one_later y won n s k (seated_at won s k other)
          ]
      | inr other ↦ one_later y won n s k (seated_at won s k (sym (ap (λ ks. among ks k) (chosen_no y won n s other)) ∙ is))
    ]

seated_if : (won : List (ℕ × Win)) (s : List ℕ) (c : ℕ) (y : ℕ × Win) → slice_get won c ≡ Some y → get_or s c 0 ≡ 1 → among (chosen_numbers won s) y.0 ≡ true
seated_if [] s c y at one = absurd (none-some y at)
seated_if (z ∷ won) [] c y at one = absurd (omega (arith, one))
seated_if (z ∷ won) (n ∷ s) zero y at one =
    ap (λ ks. among ks y.0) (chosen_yes z won n s (eq-eqb n 1 one)) ∙ or_left (nat_eq y.0 z.0) (among (chosen_numbers won s) y.0) (eq-eqb y.0 z.0 (ap (λ x. x.0) (sym (same_Some z y at))))
seated_if (z ∷ won) (n ∷ s) (suc c) y at one =
    let rest = seated_if won s c y at one in
    elim (cases_Bool (nat_eq n 1)) [
      | inl yes' ↦ ap (λ ks. among ks y.0) (chosen_yes z won n s yes') ∙ or_right (nat_eq y.0 z.0) (among (chosen_numbers won s) y.0) rest
      | inr no' ↦ ap (λ ks. among ks y.0) (chosen_no z won n s no') ∙ rest
    ]

-- ---- lists by their places

in_at : {X : Type 0} (x : X) (xs : List X) → In x xs → (m : ℕ) × (slice_get xs m ≡ Some x)
in_at x [] h = absurd h
in_at x (y ∷ xs) (inl e) = (0, ap (λ z. Some z) e)
in_at x (y ∷ xs) (inr h) = let rest = in_at x xs h in (suc rest.0, rest.1)

every_in : {X : Type 0} (xs : List X) → Every (λ x. In x xs) xs
every_in [] = tt
every_in (x ∷ xs) = (inl refl, every_weaker (λ y. In y xs) (λ y. In y (x ∷ xs)) (λ y h. inr h) xs (every_in xs))

in_numbered : (n : ℕ) (wins : List Win) (k : ℕ) (w : Win) → slice_get wins k ≡ Some w → In (n + k, w) (enumerate_from n wins)
in_numbered n [] k w at = absurd (none-some w at)
in_numbered n (x ∷ wins) zero w at = inl (let none : n ≡ n + zero = omega arith in λ i. (none i, same_Some x w at i))
in_numbered n (x ∷ wins) (suc k) w at =
    let same : n + 1 + k ≡ n + suc k = omega arith in inr (subst (λ m. In (m, w) (enumerate_from (n + 1) wins)) same (in_numbered (n + 1) wins k w at))

numbered_place : (g : ℕ × Win → Placed) (n : ℕ) (wins : List Win) (k : ℕ) (w : Win) → slice_get wins k ≡ Some w → slice_get (map g (enumerate_from n wins)) k ≡ Some (g (n + k, w))
numbered_place g n [] k w at = absurd (none-some w at)
numbered_place g n (x ∷ wins) zero w at = (let none : n ≡ n + zero = omega arith in λ i. Some (g (none i, same_Some x w at i)))
numbered_place g n (x ∷ wins) (suc k) w at =
    let same : n + 1 + k ≡ n + suc k = omega arith in numbered_place g (n + 1) wins k w at ∙ ap (λ m. Some (g (m, w))) same

on_list_if : (on u : Bool) → (if on then placed.OnList else if u then placed.Single else placed.Unseated) ≡ placed.OnList → on ≡ true
on_list_if true u is = refl
on_list_if false true is = cc
on_list_if false false is = cc

unseated_if : (on u : Bool) → (if on then placed.OnList else if u then placed.Single else placed.Unseated) ≡ placed.Unseated → on ≡ false
unseated_if true u is = cc
unseated_if false u is = refl

same_products : (a b c d p q r s : ℕ) → a ≡ p → b ≡ q → c ≡ r → d ≡ s → a * b ≤ c * d → p * q ≤ r * s
same_products a b c d p q r s ap' bq cr ds le = let left : a * b ≡ p * q = cc in let right : c * d ≡ r * s = cc in omega (arith, left, right, le)

-- ---- one list

module _ (eligible : ℕ → Bool) (e : Election) (base : List ℕ) (j k : ℕ) (v w : Win) (v_at : slice_get e.wins j ≡ Some v) (w_at : slice_get e.wins k ≡ Some w) (lands : v.land ≡ w.land) (parties : v.party ≡ w.party) where
  -- a winner of the list
  of_list : ℕ × ℕ → Win → Bool
  of_list l x = has_eligible_list eligible e x && (is_in l.0 x && is_of l.1 x)

  both_of : (l : ℕ × ℕ) → of_list l v ≡ of_list l w
  unfolding of_list
  both_of l = λ i. of_list l (record v { land = lands i; party = parties i })

  larger : (l : ℕ × ℕ) (c : Choice) → IsSeating eligible e base l c → among (seated_on eligible e (l, c)) j ≡ true → among (seated_on eligible e (l, c)) k ≡ false → w.first * v.valid ≤ v.first * w.valid
  unfolding of_list
  larger l (Tied n tied) seating on off = absurd (false≢true on)
  larger l (Decided s) seating on off =
      let won = winners_of eligible e l.0 l.1 in
      let first : ℕ × Win → ℕ = λ x. x.1.first in
      let valid : ℕ × Win → ℕ = λ x. x.1.valid in
      let covering = seating.4 in
      let at = seated_at won s j on in
      let of = every_at (λ y. IsNumbered e.wins y × (of_list l y.1 ≡ true)) won at.place (j, at.winner)
      (every_passes (IsNumbered e.wins) (λ y. of_list l y.1) (enumerate_from 0 e.wins) (are_numbered e.wins)) at.stands in
      let same : at.winner ≡ v = sym (of.0 v) ∙ get_or_from_slice_get e.wins j v v v_at in
      let of_w : of_list l w ≡ true = sym (both_of l) ∙ sym (ap (of_list l) same) ∙ of.1 in
      let numbered : In (k, w) (enumerate_from 0 e.wins) = (let none : 0 + k ≡ k = omega arith in subst (λ m. In (m, w) (enumerate_from 0 e.wins)) none (in_numbered 0 e.wins k w w_at)) in
      let there = in_at (k, w) won (in_filter (λ y. of_list l y.1) (k, w) (enumerate_from 0 e.wins) of_w numbered) in
      let none : get_or s there.0 0 ≡ 0 =
      elim (cases_eq (get_or s there.0 0) 1) [
        | inl one ↦ absurd (both_ways _ off (seated_if won s there.0 (k, w) there.1 one))
        | inr other ↦ (let most = covering.one_place there.0 in omega (arith, other, most))
      ] in
      let fa = cell_at first won at.place (j, at.winner) at.stands in
      let va = cell_at valid won at.place (j, at.winner) at.stands in
      let fc = cell_at first won there.0 (k, w) there.1 in
      let vc = cell_at valid won there.0 (k, w) there.1 in
      let most = covering.largest at.place there.0 at.seated fc.0 none in
      let fv : get_or (map first won) at.place 0 ≡ v.first = fa.1 ∙ ap (λ x. x.first) same in
      let vv : get_or (map valid won) at.place 0 ≡ v.valid = va.1 ∙ ap (λ x. x.valid) same in
      same_products _ _ _ _ w.first v.valid v.first w.valid fc.1 vv fv vc.1 most

pub cover_seats_largest : CoverSeatsLargest
cover_seats_largest b e t cover means j k v w v_at w_at lands parties sits out =
    let eligible = is_eligible b.eligible e in
    let end = end_of b e t means in
    let covered = covered_end b e end.base end.records b.last.seating cover end.table end.seated in
    let pairs = zip (lists_of e) covered.choices in
    let seated = flat_map (seated_on eligible e) pairs in
    let table = (table_without_faults (filter_map (tie_of eligible e (length b.stages)) pairs) end.table (cover_table b e end.base end.records pairs) covered.is).1 in
    let same : t.placed ≡ covered_places eligible e pairs = end.placed ∙ ap (λ u. u.placed) table in
    let at : (n : ℕ) (x : Win) (p : Placed) → slice_get e.wins n ≡ Some x → slice_get t.placed n ≡ Some p → cover_place seated (n, x) ≡ p =
    λ n x p x_at p_at. (let none : 0 + n ≡ n = omega arith in
    ap (λ m. cover_place seated (m, x)) (sym none) ∙ same_Some (cover_place seated (0 + n, x)) p (sym (numbered_place (cover_place seated) 0 e.wins n x x_at) ∙ ap (λ ps. slice_get ps n) (sym same) ∙ p_at)) in
    let on = on_list_if (among seated j) (is_none v.party) (at j v placed.OnList v_at sits) in
    let off = unseated_if (among seated k) (is_none w.party) (at k w placed.Unseated w_at out) in
    let found = some_piece (λ z. IsSeating eligible e end.base z.0 z.1 × In z pairs) (seated_on eligible e) j pairs
    (every_both (λ z. IsSeating eligible e end.base z.0 z.1) (λ z. In z pairs) (λ z. IsSeating eligible e end.base z.0 z.1 × In z pairs) (λ z p q. (p, q)) pairs
    (zip_each (IsSeating eligible e end.base) (lists_of e) covered.choices covered.each) (every_in pairs)) on in
    let z = found.0 in
    larger eligible e end.base j k v w v_at w_at lands parties z.0 z.1 found.1.0 found.2
    (false_from_ne_true (among (seated_on eligible e z) k) (λ is. both_ways (among seated k) off (among_piece (seated_on eligible e) k z pairs found.1.1 is)))
