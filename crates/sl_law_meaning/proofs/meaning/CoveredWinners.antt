-- How many winners sit on a list that covers them.
use Rattle.std.proofs.Common.{◌≡◌, ℕ, suc, ◌+◌, ◌<◌, ◌≤◌, ◌&&◌, ◌||◌, Bool, true, false, cond, List, [], ◌∷◌, Option, Some, None, is_none, nat_eq, length, map, filter, get_or, min, sum, count_by, arith, refl, sym, ap, subst, ◌∙◌, inl, inr}
use Rattle.std.specs.Prelude.{if◌then◌else◌, filter_map, slice_get, option_map, unwrap_or}
use Rattle.std.specs.Cmp.{nat_eq_equiv}
use Rattle.std.specs.List.{AllByRecursion as Every, IsDistinct, flat_map, zip, enumerate_from}
use Rattle.std.proofs.Math.Bool.{and_comm}
use Rattle.std.proofs.lemmas.Bool.{cases_eq, and_parts, and_from, and_right, eq-eqb, ne_eqb, eqb-true, cond-true, cond-false, false≢true}
use Rattle.std.proofs.lemmas.List.{length-map, get_or_default}
use Rattle.std.proofs.lemmas.List.Elements.{recursion_from_All}
use Rattle.std.proofs.lemmas.List.FromFn.{length-enumerate_from, get_or-enumerate_from}
use Rattle.std.proofs.lemmas.List.Sums.{sum_by-cons, length-filter}
use Rattle.std.proofs.lemmas.Map.Keys.{IsDistinct-from_apart}
use Rattle.sl_law_meaning.specs.declared.election.Win.{Win}
use Rattle.sl_law_meaning.specs.declared.table.Placed.{Placed}
use Rattle.sl_law_meaning.specs.declared.table.Placed.TheVariants as placed
use Rattle.sl_law_meaning.specs.declared.fault.LegalFault.{LegalFault}
use Rattle.sl_law_meaning.specs.declared.table.Outcome.TheVariants as outcome
use Rattle.sl_law_meaning.specs.meaning.Tables.{SeatTable}
use Rattle.sl_law_meaning.specs.returns.Election.{Election, IsElection, lands_of, parties_of, has_list}
use Rattle.sl_law_meaning.specs.returns.Facts.{lists_of, lands, parties, list_cell, is_in, is_of, is_eligible, is_eligible_list, has_eligible_list}
use Rattle.sl_law_meaning.specs.methods.Ties.{Choice, Decided, Tied}
use Rattle.sl_law_meaning.specs.meaning.Seating.{is_on, placed_on, winners_of, IsSeating, tie_of, seated_on, cover_place, covered_places, cover_table}
use Rattle.sl_law_meaning.specs.laws.MeaningLaws.{IsListOf, CoveredWinners}
use Rattle.sl_law_meaning.proofs.methods.SeatSums.{sum-cons}
use Rattle.sl_law_meaning.proofs.meaning.DistinctLists.{every_weaker, every_passes, every_map, every_filter, every_zipped, distinct_filter}
use Rattle.sl_law_meaning.proofs.meaning.ExactlyOne.{same_ones}
use Rattle.sl_law_meaning.proofs.meaning.ListPlaces.{by_list_at}
use Rattle.sl_law_meaning.proofs.meaning.PlacedWinners.{count_each, count_agree, count_if, when_both}
use Rattle.sl_law_meaning.proofs.meaning.OneOutcome.{one_seating}
use Rattle.sl_law_meaning.proofs.meaning.Members.{In, in_map, in_filter, in_pieces, in_range, in_zip, zip_each, none_mapped, among, not_among, among_piece, some_piece, among_numbers}

-- ---- as many as there are ones

-- the numbers of those who are seated
abbrev pub chosen_numbers : List (ℕ × Win) → List ℕ → List ℕ
chosen_numbers won s = map (λ y. y.0.0) (filter (λ y. nat_eq y.1 1) (zip won s))

count_filter : {X : Type 0} (p q : X → Bool) (xs : List X) → count_by (λ x. p x && q x) xs ≡ count_by q (filter p xs)
count_filter p q [] = refl
count_filter p q (x ∷ xs) = sum_by-cons (λ x. cond (p x && q x) 1 0) x xs ∙ by_test (p x) (count_filter p q xs) where
  by_test : (t : Bool) → count_by (λ x. p x && q x) xs ≡ count_by q (filter p xs) → cond {A = ℕ} (t && q x) 1 0 + count_by (λ x. p x && q x) xs ≡ count_by q (cond t (x ∷ filter p xs) (filter p xs))
  by_test true rest = omega (arith, rest, sum_by-cons (λ x. cond (q x) 1 0) x (filter p xs))
  by_test false rest = omega (arith, rest)

not_chosen : (k : ℕ) (won : List (ℕ × Win)) (s : List ℕ) → Every (λ y. nat_eq k y.0 ≡ false) won → among (chosen_numbers won s) k ≡ false
not_chosen k won s all =
    not_among (chosen_numbers won s) k
    (every_map (λ m. nat_eq k m ≡ false) (λ y. y.0.0) (filter (λ y. nat_eq y.1 1) (zip won s))
    (every_filter (λ y. nat_eq k y.0.0 ≡ false) (λ y. nat_eq y.1 1) (zip won s) (every_zipped (λ y. nat_eq k y.0 ≡ false) won s all)))

all_chosen : (won : List (ℕ × Win)) (s : List ℕ) → length s ≡ length won → ((i : ℕ) → get_or s i 0 ≤ 1) → IsDistinct (λ x y. nat_eq x.0 y.0) won →
    count_by (λ y. among (chosen_numbers won s) y.0) won ≡ sum s
unfolding IsDistinct
all_chosen [] [] long ones differ = refl
all_chosen [] (n ∷ s) long ones differ = absurd (omega (arith, long))
all_chosen (y ∷ won) [] long ones differ = absurd (omega (arith, long))
all_chosen (y ∷ won) (n ∷ s) long ones differ =
    let rest = all_chosen won s (omega (arith, long)) (λ i. ones (suc i)) differ.1 in
    let now = chosen_numbers (y ∷ won) (n ∷ s) in
    let kept = filter (λ y. nat_eq y.1 1) (zip won s) in
    elim (cases_eq n 1) [
      | inl one ↦
          (let is : now ≡ y.0 ∷ chosen_numbers won s = ap (map (λ y. y.0.0)) (cond-true (nat_eq n 1) ((y, n) ∷ kept) kept (eq-eqb n 1 one)) in
          let this : cond {A = ℕ} (among now y.0) 1 0 ≡ 1 = ap (λ ks. cond (among ks y.0) 1 0) is ∙ ap (λ t. cond (t || among (chosen_numbers won s) y.0) 1 0) (eq-eqb y.0 y.0 refl) in
          let others : count_by (λ z. among now z.0) won ≡ count_by (λ z. among (chosen_numbers won s) z.0) won =
          count_each (λ z. among now z.0) (λ z. among (chosen_numbers won s) z.0) won
          (every_weaker (λ z. nat_eq y.0 z.0 ≡ false) (λ z. among now z.0 ≡ among (chosen_numbers won s) z.0)
          (λ z other. ap (λ ks. among ks z.0) is ∙ ap (λ t. t || among (chosen_numbers won s) z.0) (nat_eq_equiv.symm z.0 y.0 ∙ other)) won differ.0) in
          sum_by-cons (λ z. cond (among now z.0) 1 0) y won ∙ omega (arith, this, others, rest, one, sum-cons n s))
      | inr other ↦
          (let is : now ≡ chosen_numbers won s = ap (map (λ y. y.0.0)) (cond-false (nat_eq n 1) ((y, n) ∷ kept) kept (ne_eqb n 1 other)) in
          let this : cond {A = ℕ} (among now y.0) 1 0 ≡ 0 = ap (λ ks. cond (among ks y.0) 1 0) is ∙ ap (λ t. cond t 1 0) (not_chosen y.0 won s differ.0) in
          let others : count_by (λ z. among now z.0) won ≡ count_by (λ z. among (chosen_numbers won s) z.0) won = ap (λ ks. count_by (λ z. among ks z.0) won) is in
          let none : n ≡ 0 = omega (arith, other, ones 0) in
          sum_by-cons (λ z. cond (among now z.0) 1 0) y won ∙ omega (arith, this, others, rest, none, sum-cons n s))
    ]

-- ---- the winners by their numbers

-- the winner of that number
abbrev pub IsNumbered : List Win → ℕ × Win → Type 0
IsNumbered wins y = (d : Win) → get_or wins y.0 d ≡ y.1

pub are_numbered : (wins : List Win) → Every (IsNumbered wins) (enumerate_from 0 wins)
are_numbered wins =
    recursion_from_All (IsNumbered wins) (enumerate_from 0 wins)
    (λ i x less d.
    let within : i < length wins = omega (arith, less, length-enumerate_from 0 wins) in
    let at = get_or-enumerate_from 0 wins i x within in
    let place : 0 + i ≡ i = omega arith in
    subst (λ y. get_or wins y.0 d ≡ y.1) (sym at) (ap (λ k. get_or wins k d) place ∙ get_or_default wins i d x.1 within))

numbers_differ : (n : ℕ) (wins : List Win) → IsDistinct (λ x y. nat_eq x.0 y.0) (enumerate_from n wins)
numbers_differ n wins =
    IsDistinct-from_apart (λ x y. nat_eq x.0 y.0) (enumerate_from n wins) (λ i j d less within.
    let inside : j < length wins = omega (arith, length-enumerate_from n wins) in
    rw (get_or-enumerate_from n wins i d (omega arith), get_or-enumerate_from n wins j d inside) (ne_eqb (n + i) (n + j) (λ same. omega (arith, same))))

-- ---- a list and its choice

decided_if : (eligible : ℕ → Bool) (e : Election) (stage : ℕ) (l : ℕ × ℕ) (c : Choice) → tie_of eligible e stage (l, c) ≡ None → (s : List ℕ) × (c ≡ Decided s)
decided_if eligible e stage l (Decided s) none = (s, refl)
decided_if eligible e stage l (Tied k tied) none = cc

is_on_when : (t u : Bool) → is_on (if t then placed.OnList else if u then placed.Single else placed.Unseated) ≡ t
is_on_when true u = refl
is_on_when false true = refl
is_on_when false false = refl

both_sides : (x y : Bool) → (x ≡ true → y ≡ true) → (y ≡ true → x ≡ true) → x ≡ y
both_sides true y f g = sym (f refl)
both_sides false true f g = g refl
both_sides false false f g = refl

module _ (eligible : ℕ → Bool) (e : Election) where
  -- the winner is of the list
  of_list : ℕ × ℕ → Win → Bool
  of_list l w = has_eligible_list eligible e w && (is_in l.0 w && is_of l.1 w)

  -- who is seated on a list is a winner of it
  seated_is : (l : ℕ × ℕ) (c : Choice) (y : ℕ × Win) → IsNumbered e.wins y → among (seated_on eligible e (l, c)) y.0 ≡ true → of_list l y.1 ≡ true
  unfolding of_list
  seated_is l (Tied k tied) y numbered is = absurd (false≢true is)
  seated_is l (Decided s) y numbered is =
      let P : (ℕ × Win) × ℕ → Type 0 = λ z. IsNumbered e.wins z.0 × (of_list l z.0.1 ≡ true) in
      let each : Every (λ z. IsNumbered e.wins z × (of_list l z.1 ≡ true)) (winners_of eligible e l.0 l.1) =
      every_passes (IsNumbered e.wins) (λ z. has_eligible_list eligible e z.1 && (is_in l.0 z.1 && is_of l.1 z.1)) (enumerate_from 0 e.wins) (are_numbered e.wins) in
      let found = among_numbers P (λ z. z.0.0) y.0 (filter (λ z. nat_eq z.1 1) (zip (winners_of eligible e l.0 l.1) s))
      (every_filter P (λ z. nat_eq z.1 1) (zip (winners_of eligible e l.0 l.1) s) (every_zipped (λ z. IsNumbered e.wins z × (of_list l z.1 ≡ true)) (winners_of eligible e l.0 l.1) s each)) is in
      let same : found.0.0.1 ≡ y.1 = sym (found.1.0 y.1) ∙ ap (λ k. get_or e.wins k y.1) found.2 ∙ numbered y.1 in
      subst (λ w. of_list l w ≡ true) same found.1.1

  -- the winners of a list are as many as the column of the winners says
  of_land_and_party : (land party : ℕ) (w : Win) (o : Option ℕ) →
      of_list (land, party) (record w { party = o }) ≡ is_eligible_list eligible e land party && (is_in land (record w { party = o }) && is_of party (record w { party = o }))
  unfolding of_list
  of_land_and_party land party w None = sym (and_right (is_eligible_list eligible e land party) (nat_eq w.land land && false) (and_right (nat_eq w.land land) false refl))
  of_land_and_party land party w (Some p) = and_comm (is_eligible_list eligible e w.land p) (nat_eq w.land land && nat_eq p party) ∙ when_both eligible e land party w p

  count_numbered : (test : Win → Bool) (n : ℕ) (wins : List Win) → count_by (λ y. test y.1) (enumerate_from n wins) ≡ count_by test wins
  count_numbered test n [] = refl
  count_numbered test n (w ∷ wins) =
      let rest = count_numbered test (n + 1) wins in
      sum_by-cons (λ y. cond (test y.1) 1 0) (n, w) (enumerate_from (n + 1) wins) ∙ omega (arith, rest, sum_by-cons (λ w. cond (test w) 1 0) w wins)

  how_many : (land party : ℕ) → length (winners_of eligible e land party) ≡ (if is_eligible_list eligible e land party then count_by (λ w. is_in land w && is_of party w) e.wins else 0)
  unfolding of_list
  how_many land party =
      length-filter (λ y. of_list (land, party) y.1) (enumerate_from 0 e.wins)
      ∙ count_numbered (of_list (land, party)) 0 e.wins
      ∙ count_agree (of_list (land, party)) (λ w. is_eligible_list eligible e land party && (is_in land w && is_of party w)) (λ w. of_land_and_party land party w w.party) e.wins
      ∙ count_if (is_eligible_list eligible e land party) (λ w. is_in land w && is_of party w) e.wins

of_one_party : (w : Win) (p q : ℕ) (o : Option ℕ) → is_of p (record w { party = o }) ≡ true → is_of q (record w { party = o }) ≡ true → p ≡ q
of_one_party w p q None h k = absurd (false≢true h)
of_one_party w p q (Some x) h k = sym (eqb-true x p h) ∙ eqb-true x q k

module _ (eligible : ℕ → Bool) (e : Election) (is : IsElection e) (base : List ℕ) (pairs : List ((ℕ × ℕ) × Choice)) (each : Every (λ z. IsSeating eligible e base z.0 z.1) pairs)
    (l : ℕ × ℕ) (s : List ℕ) (there : In (l, Decided s) pairs) (seating : IsSeating eligible e base l (Decided s)) where
  all_seated : List ℕ
  all_seated = flat_map (seated_on eligible e) pairs

  -- a pair in which a winner of the list is seated is the list's own
  own_pair : (y : ℕ × Win) → IsNumbered e.wins y → (is_in l.0 y.1 && is_of l.1 y.1) ≡ true → among all_seated y.0 ≡ true → (of_list eligible e l y.1 ≡ true) × (among (seated_on eligible e (l, Decided s)) y.0 ≡ true)
  unfolding all_seated of_list
  own_pair y numbered both seated =
      let found = some_piece (λ z. IsSeating eligible e base z.0 z.1) (seated_on eligible e) y.0 pairs each seated in
      let z = found.0 in
      let winner = seated_is eligible e z.0 z.1 y numbered found.2 in
      let parts = and_parts (has_eligible_list eligible e y.1) (is_in z.0.0 y.1 && is_of z.0.1 y.1) winner in
      let here = and_parts (is_in z.0.0 y.1) (is_of z.0.1 y.1) parts.1 in
      let mine = and_parts (is_in l.0 y.1) (is_of l.1 y.1) both in
      let same_land : z.0.0 ≡ l.0 = sym (eqb-true y.1.land z.0.0 here.0) ∙ eqb-true y.1.land l.0 mine.0 in
      let same_party : z.0.1 ≡ l.1 = of_one_party y.1 z.0.1 l.1 y.1.party here.1 mine.1 in
      let same : z.0 ≡ l = λ i. (same_land i, same_party i) in
      let choice : z.1 ≡ Decided s = same_ones (IsSeating eligible e base l) (one_seating eligible e is base l) z.1 (Decided s) (subst (λ k. IsSeating eligible e base k z.1) same found.1) seating in (
        subst (λ k. of_list eligible e k y.1 ≡ true) same winner,
        subst (λ c. among (seated_on eligible e (l, c)) y.0 ≡ true) choice (subst (λ k. among (seated_on eligible e (k, z.1)) y.0 ≡ true) same found.2),
      )

  agree : (y : ℕ × Win) → IsNumbered e.wins y →
      (is_in l.0 y.1 && is_of l.1 y.1) && is_on (cover_place all_seated y) ≡ of_list eligible e l y.1 && among (seated_on eligible e (l, Decided s)) y.0
  unfolding all_seated of_list
  agree y numbered =
      let on = is_on_when (among all_seated y.0) (is_none y.1.party) in
      both_sides _ _
      (λ h.
      let parts = and_parts (is_in l.0 y.1 && is_of l.1 y.1) (is_on (cover_place all_seated y)) h in
      let own = own_pair y numbered parts.0 (sym on ∙ parts.1) in
      and_from (of_list eligible e l y.1) (among (seated_on eligible e (l, Decided s)) y.0) own.0 own.1)
      (λ h.
      let parts = and_parts (of_list eligible e l y.1) (among (seated_on eligible e (l, Decided s)) y.0) h in
      let both = and_parts (has_eligible_list eligible e y.1) (is_in l.0 y.1 && is_of l.1 y.1) parts.0 in
      and_from (is_in l.0 y.1 && is_of l.1 y.1) (is_on (cover_place all_seated y)) both.1 (on ∙ among_piece (seated_on eligible e) y.0 (l, Decided s) pairs there parts.1))

  count_placed : (n : ℕ) (wins : List Win) (p : Win × Placed → Bool) (g : ℕ × Win → Placed) → count_by p (zip wins (map g (enumerate_from n wins))) ≡ count_by (λ y. p (y.1, g y)) (enumerate_from n wins)
  count_placed n [] p g = refl
  count_placed n (w ∷ wins) p g =
      let rest = count_placed (n + 1) wins p g in
      sum_by-cons (λ x. cond (p x) 1 0) (w, g (n, w)) (zip wins (map g (enumerate_from (n + 1) wins))) ∙ omega (arith, rest, sum_by-cons (λ y. cond (p (y.1, g y)) 1 0) (n, w) (enumerate_from (n + 1) wins))

  pub seated_of : placed_on e (covered_places eligible e pairs) l.0 l.1 ≡ min (list_cell e base l.0 l.1) (length (winners_of eligible e l.0 l.1))
  unfolding all_seated of_list
  seated_of =
      let won = winners_of eligible e l.0 l.1 in
      let covering = seating.4 in
      let long : length s ≡ length won = covering.same_length ∙ length-map won (λ x. x.1.first) in
      let distinct : IsDistinct (λ x y. nat_eq x.0 y.0) won = distinct_filter (λ x y. nat_eq x.0 y.0) (λ y. of_list eligible e l y.1) (enumerate_from 0 e.wins) (numbers_differ 0 e.wins) in
      count_placed 0 e.wins (λ x. (is_in l.0 x.0 && is_of l.1 x.0) && is_on x.1) (cover_place all_seated)
      ∙ count_each (λ y. (is_in l.0 y.1 && is_of l.1 y.1) && is_on (cover_place all_seated y)) (λ y. of_list eligible e l y.1 && among (seated_on eligible e (l, Decided s)) y.0) (enumerate_from 0 e.wins)
      (every_weaker (IsNumbered e.wins) (λ y. (is_in l.0 y.1 && is_of l.1 y.1) && is_on (cover_place all_seated y) ≡ of_list eligible e l y.1 && among (seated_on eligible e (l, Decided s)) y.0) agree (enumerate_from 0 e.wins) (are_numbered e.wins))
      ∙ count_filter (λ y. of_list eligible e l y.1) (λ y. among (seated_on eligible e (l, Decided s)) y.0) (enumerate_from 0 e.wins)
      ∙ all_chosen won s long covering.one_place distinct
      ∙ covering.total

-- ---- the law

pub table_without_faults : (faults : List LegalFault) (t u : SeatTable) → outcome.Table t ≡ unwrap_or (option_map (λ f. outcome.Fault f) (slice_get faults 0)) (outcome.Table u) → (faults ≡ []) × (t ≡ u)
table_without_faults [] t u is = (refl, cc)
table_without_faults (f ∷ faults) t u is = cc

listed : (e : Election) (land party : ℕ) → IsListOf e land party → In (land, party) (lists_of e)
listed e land party there =
    in_pieces (λ land. map (λ party. (land, party)) (filter (has_list e land) (parties e))) (land, party) land (lands e) (in_range (lands_of e) land there.in_lands)
    (in_map (λ party. (land, party)) party (filter (has_list e land) (parties e)) (in_filter (has_list e land) party (parties e) there.has (in_range (parties_of e) party there.in_parties)))

pub covered_winners : CoveredWinners
covered_winners b e base records t is covered land party there =
    let eligible = is_eligible b.eligible e in
    let pairs = zip (lists_of e) covered.choices in
    let table = table_without_faults (filter_map (tie_of eligible e (length b.stages)) pairs) t (cover_table b e base records pairs) covered.is in
    let own = in_zip (IsSeating eligible e base) (land, party) (lists_of e) covered.choices covered.each (listed e land party there) in
    let decided = decided_if eligible e (length b.stages) (land, party) own.0 (none_mapped (tie_of eligible e (length b.stages)) ((land, party), own.0) pairs table.0 own.1) in
    ap (λ u. placed_on e u.placed land party) table.1
    ∙ seated_of eligible e is base pairs (zip_each (IsSeating eligible e base) (lists_of e) covered.choices covered.each) (land, party) decided.0
    (subst (λ c. In ((land, party), c) pairs) decided.1 own.1) (subst (IsSeating eligible e base (land, party)) decided.1 own.2)
    ∙ ap (min (list_cell e base land party)) (how_many eligible e land party
    ∙ sym (by_list_at e (λ land party. if is_eligible_list eligible e land party then count_by (λ w. is_in land w && is_of party w) e.wins else 0) land party there.in_lands there.in_parties))
