-- Where winners are covered.
use Rattle.std.proofs.Common.{◌≡◌, ℕ, zero, suc, ◌+◌, ◌&&◌, Bool, true, false, cond, List, [], ◌∷◌, Option, Some, None, is_none, length, map, filter, get_or, nat_eq, min, count_by, sum_by, inl, inr, arith, refl, sym, ap, subst, ◌∙◌}
use Rattle.std.specs.Prelude.{if◌then◌else◌, zip, flat_map, filter_map, slice_get}
use Rattle.std.specs.List.{AllByRecursion as Every, AllZip, enumerate_from}
use Rattle.std.proofs.lemmas.Bool.{and_parts, both_ways, false≢true}
use Rattle.std.proofs.lemmas.Option.{none-some, same_Some}
use Rattle.std.proofs.lemmas.List.Sums.{sum_by-cons}
use Rattle.sl_law_meaning.specs.declared.book.Seating.{Seating}
use Rattle.sl_law_meaning.specs.declared.book.Seating.TheVariants as seating
use Rattle.sl_law_meaning.specs.declared.election.Win.{Win}
use Rattle.sl_law_meaning.specs.declared.table.ListSeats.{ListSeats}
use Rattle.sl_law_meaning.specs.declared.table.Outcome.TheVariants as outcome
use Rattle.sl_law_meaning.specs.declared.table.Placed.{Placed}
use Rattle.sl_law_meaning.specs.declared.table.Placed.TheVariants as placed
use Rattle.sl_law_meaning.specs.book.Trees.{BookTree}
use Rattle.sl_law_meaning.specs.returns.Election.{Election, IsElection}
use Rattle.sl_law_meaning.specs.returns.Facts.{lists_of, list_cell, is_in, is_of, is_eligible, has_eligible_list, is_on_list}
use Rattle.sl_law_meaning.specs.methods.Ties.{Choice, Decided, Tied}
use Rattle.sl_law_meaning.specs.meaning.Records.{Records}
use Rattle.sl_law_meaning.specs.meaning.Seating.{table_line, placed_on, winners_of, tie_of, seated_on, cover_place, covered_places, cover_table}
use Rattle.sl_law_meaning.specs.meaning.Tables.{SeatTable}
use Rattle.sl_law_meaning.specs.meaning.Means.{IsCovered, IsSeated}
use Rattle.sl_law_meaning.specs.laws.MeaningLaws.{IsListOf}
use Rattle.sl_law_meaning.proofs.meaning.CoveredWinners.{covered_winners, IsNumbered, are_numbered, table_without_faults}
use Rattle.sl_law_meaning.proofs.meaning.DistinctLists.{always, every_weaker, every_passes, every_filter, every_zipped}
use Rattle.sl_law_meaning.proofs.meaning.Members.{among, some_piece, among_numbers}
use Rattle.sl_law_fairness.specs.Winners.{base_seats, winners_on, is_single, total_seats, IsLine, CoverKeepsBase, IsCoveredPlace, CoverPlaces}
use Rattle.sl_law_fairness.proofs.ListColumns.{sum_mapped, zip_map, each_is_map, are_lists}
use Rattle.sl_law_fairness.proofs.Bases.{end_of, one_base, sum_of_base}

-- ---- who is seated on a list has a party

module _ (eligible : ℕ → Bool) (e : Election) where
  seated_is : (l : ℕ × ℕ) (c : Choice) (y : ℕ × Win) → IsNumbered e.wins y → among (seated_on eligible e (l, c)) y.0 ≡ true → has_eligible_list eligible e y.1 ≡ true
  seated_is l (Tied k tied) y numbered is = absurd (false≢true is)
  seated_is l (Decided s) y numbered is =
      let of_list : ℕ × Win → Bool = λ z. has_eligible_list eligible e z.1 && (is_in l.0 z.1 && is_of l.1 z.1) in
      let P : (ℕ × Win) × ℕ → Type 0 = λ z. IsNumbered e.wins z.0 × (of_list z.0 ≡ true) in
      let each : Every (λ z. IsNumbered e.wins z × (of_list z ≡ true)) (winners_of eligible e l.0 l.1) =
      every_passes (IsNumbered e.wins) of_list (enumerate_from 0 e.wins) (are_numbered e.wins) in
      let found = among_numbers P (λ z. z.0.0) y.0 (filter (λ z. nat_eq z.1 1) (zip (winners_of eligible e l.0 l.1) s))
      (every_filter P (λ z. nat_eq z.1 1) (zip (winners_of eligible e l.0 l.1) s) (every_zipped (λ z. IsNumbered e.wins z × (of_list z ≡ true)) (winners_of eligible e l.0 l.1) s each)) is in
      let same : found.0.0.1 ≡ y.1 = sym (found.1.0 y.1) ∙ ap (λ k. get_or e.wins k y.1) found.2 ∙ numbered y.1 in
      subst (λ w. has_eligible_list eligible e w ≡ true) same (and_parts (has_eligible_list eligible e found.0.0.1) (is_in l.0 found.0.0.1 && is_of l.1 found.0.0.1) found.1.1).0

  with_party : (w : Win) (o : Option ℕ) → has_eligible_list eligible e (record w { party = o }) ≡ true → is_none o ≡ false
  with_party w None has = absurd (false≢true has)
  with_party w (Some p) has = refl

  -- the singles are the winners without a party
  single_if : (pairs : List ((ℕ × ℕ) × Choice)) (y : ℕ × Win) → IsNumbered e.wins y → is_single (cover_place (flat_map (seated_on eligible e) pairs) y) ≡ is_none y.1.party
  single_if pairs y numbered = of (among (flat_map (seated_on eligible e) pairs) y.0) refl where
    neither : (t : Bool) → is_single (if t then placed.Single else placed.Unseated) ≡ t
    neither true = refl
    neither false = refl

    of : (t : Bool) → among (flat_map (seated_on eligible e) pairs) y.0 ≡ t → is_single (if t then placed.OnList else if is_none y.1.party then placed.Single else placed.Unseated) ≡ is_none y.1.party
    of true on =
        let found = some_piece (λ z. Unit {0}) (seated_on eligible e) y.0 pairs (always (λ z. Unit {0}) (λ z. tt) pairs) on in
        sym (with_party y.1 y.1.party (seated_is found.0.0 found.0.1 y numbered found.2))
    of false off = neither (is_none y.1.party)

  singles_from : (pairs : List ((ℕ × ℕ) × Choice)) (n : ℕ) (wins : List Win) → Every (IsNumbered e.wins) (enumerate_from n wins) →
      count_by is_single (map (cover_place (flat_map (seated_on eligible e) pairs)) (enumerate_from n wins)) ≡ count_by (λ w. is_none w.party) wins
  singles_from pairs n [] all = refl
  singles_from pairs n (w ∷ wins) all =
      let place : ℕ × Win → Placed = cover_place (flat_map (seated_on eligible e) pairs) in
      let rest = singles_from pairs (n + 1) wins all.1 in
      let this : cond {A = ℕ} (is_single (place (n, w))) 1 0 ≡ cond (is_none w.party) 1 0 = ap (λ t. cond t 1 0) (single_if pairs (n, w) all.0) in
      sum_by-cons (λ p. cond (is_single p) 1 0) (place (n, w)) (map place (enumerate_from (n + 1) wins)) ∙ omega (arith, rest, this, sum_by-cons (λ w. cond (is_none w.party) 1 0) w wins)

-- ---- the table

pub covered_end : (b : BookTree) (e : Election) (base : List ℕ) (records : Records) (s : Seating) → s ≡ seating.Cover → (u : SeatTable) → IsSeated b e s base records (outcome.Table u) → IsCovered b e base records (outcome.Table u)
covered_end b e base records seating.Keep is u h = cc
covered_end b e base records seating.Cover is u h = h

module _ (b : BookTree) (e : Election) (base : List ℕ) (records : Records) (is : IsElection e) (u : SeatTable) (covered : IsCovered b e base records (outcome.Table u)) where
  pairs : List ((ℕ × ℕ) × Choice)
  pairs = zip (lists_of e) covered.choices

  is_table : u ≡ cover_table b e base records pairs
  unfolding pairs
  is_table = (table_without_faults (filter_map (tie_of (is_eligible b.eligible e) e (length b.stages)) pairs) u (cover_table b e base records pairs) covered.is).1

  places : List Placed
  places = covered_places (is_eligible b.eligible e) e pairs

  covered_line : ℕ × ℕ → ListSeats
  covered_line l = table_line b e (list_cell e base) places l.0 l.1

  lines : u.lists ≡ map covered_line (lists_of e)
  unfolding places covered_line
  lines = ap (λ t. t.lists) is_table ∙ each_is_map e (table_line b e (list_cell e base) places)

  -- its winners who are placed on a list
  direct : (l : ℕ × ℕ) → IsListOf e l.0 l.1 → placed_on e places l.0 l.1 ≡ min (base_seats e base l) (winners_on b e l)
  unfolding places
  direct l there = ap (λ t. placed_on e t.placed l.0 l.1) (sym is_table) ∙ covered_winners b e base records u is covered l.0 l.1 there

  are_lines : AllZip (λ l. IsLine l (base_seats e base l) (min (base_seats e base l) (winners_on b e l))) (lists_of e) (map covered_line (lists_of e))
  unfolding covered_line
  are_lines =
      zip_map (λ l. IsLine l (base_seats e base l) (min (base_seats e base l) (winners_on b e l))) covered_line (lists_of e)
      (every_weaker (λ l. IsListOf e l.0 l.1) (λ l. IsLine l (base_seats e base l) (min (base_seats e base l) (winners_on b e l)) (covered_line l))
      (λ l there. record { land = refl; party = refl; seats = refl; direct = direct l there }) (lists_of e) (are_lists e))

  lines_are : AllZip (λ l. IsLine l (base_seats e base l) (min (base_seats e base l) (winners_on b e l))) (lists_of e) u.lists
  lines_are = subst (AllZip (λ l. IsLine l (base_seats e base l) (min (base_seats e base l) (winners_on b e l))) (lists_of e)) (sym lines) are_lines

  total : total_seats u ≡ sum_by (base_seats e base) (lists_of e) + count_by (λ w. is_none w.party) e.wins
  unfolding places covered_line
  total =
      let seats : sum_by (λ s. s.seats) u.lists ≡ sum_by (base_seats e base) (lists_of e) = ap (sum_by (λ s. s.seats)) lines ∙ sum_mapped (λ s. s.seats) covered_line (lists_of e) in
      let singles : count_by is_single u.placed ≡ count_by (λ w. is_none w.party) e.wins =
      ap (λ t. count_by is_single t.placed) is_table ∙ singles_from (is_eligible b.eligible e) e pairs 0 e.wins (are_numbered e.wins) in
      omega (arith, seats, singles)

pub cover_keeps_base : CoverKeepsBase
cover_keeps_base b e base t typed is cover at means =
    let end = end_of b e t means in
    let same : end.base ≡ base = one_base b e typed end.base base end.is_base at in
    let covered = subst (λ c. IsCovered b e c end.records (outcome.Table end.table)) same (covered_end b e end.base end.records b.last.seating cover end.table end.seated) in (
      subst (AllZip (λ l. IsLine l (base_seats e base l) (min (base_seats e base l) (winners_on b e l))) (lists_of e)) (sym end.lists) (lines_are b e base end.records is end.table covered),
      (let lists : sum_by (λ s. s.seats) t.lists ≡ sum_by (λ s. s.seats) end.table.lists = ap (sum_by (λ s. s.seats)) end.lists in
          let places : count_by is_single t.placed ≡ count_by is_single end.table.placed = ap (count_by is_single) end.placed in
          omega (arith, lists, places, total b e base end.records is end.table covered, sum_of_base b e base typed is at)),
    )

-- ---- where each winner sits

module _ (b : BookTree) (e : Election) (pairs : List ((ℕ × ℕ) × Choice)) where
  all_seated : List ℕ
  all_seated = flat_map (seated_on (is_eligible b.eligible e) e) pairs

  -- who is seated is of an eligible list
  seated_has : (y : ℕ × Win) → IsNumbered e.wins y → among all_seated y.0 ≡ true → is_on_list b.eligible e y.1 ≡ true
  unfolding all_seated
  seated_has y numbered on =
      let found = some_piece (λ z. Unit {0}) (seated_on (is_eligible b.eligible e) e) y.0 pairs (always (λ z. Unit {0}) (λ z. tt) pairs) on in
      seated_is (is_eligible b.eligible e) e found.0.0 found.0.1 y numbered found.2

  place_of : Bool → Option ℕ → Placed
  place_of on party = if on then placed.OnList else if is_none party then placed.Single else placed.Unseated

  is_place : (w : Win) (party : Option ℕ) (on : Bool) → (on ≡ true → is_on_list b.eligible e (record w { party = party }) ≡ true) → IsCoveredPlace b e (record w { party = party }) (place_of on party)
  unfolding place_of
  is_place w None true has = absurd (false≢true (has refl))
  is_place w None false has = record { alone = λ no. refl; no_list = λ some. absurd (some refl); on_list = λ on. absurd (false≢true on) }
  is_place w (Some p) true has = record { alone = λ no. cc; no_list = λ some off. absurd (both_ways _ off (has refl)); on_list = λ on. inl refl }
  is_place w (Some p) false has = record { alone = λ no. cc; no_list = λ some off. refl; on_list = λ on. inr refl }

  place_at : (n : ℕ) (wins : List Win) → Every (IsNumbered e.wins) (enumerate_from n wins) → (k : ℕ) (w : Win) → slice_get wins k ≡ Some w →
      (p : Placed) × (slice_get (map (cover_place all_seated) (enumerate_from n wins)) k ≡ Some p) × IsCoveredPlace b e w p
  unfolding place_of
  place_at n [] all k w at = absurd (none-some w at)
  place_at n (x ∷ wins) all zero w at =
      (cover_place all_seated (n, x), refl, subst (λ w. IsCoveredPlace b e w (cover_place all_seated (n, x))) (same_Some x w at) (is_place x x.party (among all_seated n) (seated_has (n, x) all.0)))
  place_at n (x ∷ wins) all (suc k) w at = place_at (n + 1) wins all.1 k w at

pub cover_places : CoverPlaces
unfolding all_seated
cover_places b e t cover means k w at =
    let end = end_of b e t means in
    let covered = covered_end b e end.base end.records b.last.seating cover end.table end.seated in
    let all = zip (lists_of e) covered.choices in
    let table = (table_without_faults (filter_map (tie_of (is_eligible b.eligible e) e (length b.stages)) all) end.table (cover_table b e end.base end.records all) covered.is).1 in
    let same : t.placed ≡ covered_places (is_eligible b.eligible e) e all = end.placed ∙ ap (λ u. u.placed) table in
    subst (λ places. (p : Placed) × (slice_get places k ≡ Some p) × IsCoveredPlace b e w p) (sym same) (place_at b e all 0 e.wins (are_numbered e.wins) k w at)
