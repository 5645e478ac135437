-- Each winner on a list is counted on one list alone; the rest is a sum.
use Rattle.std.proofs.Common.{◌≡◌, ℕ, suc, ◌+◌, ◌-◌, ◌≤◌, ◌&&◌, Bool, true, false, not, cond, List, [], ◌∷◌, Option, Some, None, is_none, nat_eq, length, map, filter, min, count_by, sum_by, inl, inr, arith, refl, sym, ap, subst, ◌∙◌}
use Rattle.std.specs.Prelude.{slice_get, filter_map, if◌then◌else◌}
use Rattle.std.specs.List.{AllByRecursion as Every, zip, enumerate_from}
use Rattle.std.proofs.lemmas.Bool.{cases_Bool, and_parts, and_right, eq-eqb, ne_eqb, false≢true}
use Rattle.std.proofs.lemmas.Option.{same_Some}
use Rattle.std.proofs.lemmas.List.{length-map}
use Rattle.std.proofs.lemmas.List.FromFn.{length-enumerate_from}
use Rattle.std.proofs.lemmas.List.Sums.{sum_by-cons}
use Rattle.sl_law_meaning.specs.declared.book.Seating.TheVariants as seating
use Rattle.sl_law_meaning.specs.declared.election.Win.{Win}
use Rattle.sl_law_meaning.specs.declared.table.Outcome.TheVariants as outcome
use Rattle.sl_law_meaning.specs.declared.table.Placed.{Placed}
use Rattle.sl_law_meaning.specs.declared.table.Placed.TheVariants as placed
use Rattle.sl_law_meaning.specs.book.Trees.{BookTree}
use Rattle.sl_law_meaning.specs.book.Typing.{is_typed}
use Rattle.sl_law_meaning.specs.returns.Election.{Election, IsElection, lands_of, parties_of, has_list}
use Rattle.sl_law_meaning.specs.returns.Facts.{lands, parties, lists_of, is_in, is_of, is_eligible, is_on_list}
use Rattle.sl_law_meaning.specs.meaning.Seating.{is_on, placed_on, kept_place, tie_of, covered_places, cover_table}
use Rattle.sl_law_meaning.specs.meaning.Means.{IsCovered}
use Rattle.sl_law_meaning.specs.laws.MeaningLaws.{IsListOf}
use Rattle.sl_law_meaning.proofs.FactReadings.{lists_are_named}
use Rattle.sl_law_meaning.proofs.meaning.CoveredWinners.{covered_winners, table_without_faults}
use Rattle.sl_law_meaning.proofs.meaning.DistinctLists.{every_weaker, always}
use Rattle.sl_law_meaning.proofs.meaning.PlacedWinners.{count_pairs, count_agree, kept_direct}
use Rattle.sl_law_fairness.specs.Winners.{base_seats, winners_on, outside, independents, IsCoveredPlace}
use Rattle.sl_law_fairness.proofs.ListColumns.{sum_agree, sum_mapped, sum_pieces, are_lists}
use Rattle.sl_law_fairness.proofs.Bases.{end_of, one_base}
use Rattle.sl_law_fairness.proofs.Covering.{covered_end, cover_places}
use Rattle.sl_law_statutes.specs.Trees.{law_of_2023, law_of_2023_order}
use Rattle.sl_law_statutes.specs.Unseated.{is_unseated, LeavesTheOverhang, UnseatedOf2023}
use Rattle.sl_law_statutes.proofs.Sums.{sum_filter, sum_zero, sum_swap, one_term}

-- ---- pairs

count_first : {X Y : Type 0} (p : X → Bool) (xs : List X) (ys : List Y) → length ys ≡ length xs → count_by (λ z. p z.0) (zip xs ys) ≡ count_by p xs
count_first p [] ys e = refl
count_first p (x ∷ xs) [] e = absurd (omega (arith, e))
count_first p (x ∷ xs) (y ∷ ys) e =
    let rest = count_first p xs ys (omega (arith, e)) in
    sum_by-cons (λ z. cond (p z.0) 1 0) (x, y) (zip xs ys) ∙ omega (arith, rest, sum_by-cons (λ x. cond (p x) 1 0) x xs)

count_second : {X Y : Type 0} (q : Y → Bool) (xs : List X) (ys : List Y) → length ys ≡ length xs → count_by (λ z. q z.1) (zip xs ys) ≡ count_by q ys
count_second q [] [] e = refl
count_second q [] (y ∷ ys) e = absurd (omega (arith, e))
count_second q (x ∷ xs) [] e = absurd (omega (arith, e))
count_second q (x ∷ xs) (y ∷ ys) e =
    let rest = count_second q xs ys (omega (arith, e)) in
    sum_by-cons (λ z. cond (q z.1) 1 0) (x, y) (zip xs ys) ∙ omega (arith, rest, sum_by-cons (λ y. cond (q y) 1 0) y ys)

zip_every : {X Y : Type 0} (R : X → Y → Type 0) (xs : List X) (ys : List Y) → ((k : ℕ) (x : X) → slice_get xs k ≡ Some x → (y : Y) × (slice_get ys k ≡ Some y) × R x y) → Every (λ z. R z.0 z.1) (zip xs ys)
zip_every R [] ys h = tt
zip_every R (x ∷ xs) [] h = tt
zip_every R (x ∷ xs) (y ∷ ys) h =
    let first = h 0 x refl in
    (subst (R x) (sym (same_Some y first.0 first.1)) first.2, zip_every R xs ys (λ k z e. h (suc k) z e))

map_every : {X Y : Type 0} (R : X → Y → Type 0) (f : X → Y) → ((x : X) → R x (f x)) → (xs : List X) → Every (λ z. R z.0 z.1) (zip xs (map f xs))
map_every R f h [] = tt
map_every R f h (x ∷ xs) = (h x, map_every R f h xs)

fewer_by : (t u : Bool) → (t ≡ true → u ≡ true) → cond {A = ℕ} t 1 0 ≤ cond u 1 0
fewer_by true true h = omega arith
fewer_by true false h = absurd (false≢true (h refl))
fewer_by false u h = omega arith

module _ {X : Type 0} where
  -- the smaller of two numbers, and what the second has beyond the first
  sum_smaller : (f g : X → ℕ) (xs : List X) → sum_by g xs ≡ sum_by (λ x. min (f x) (g x)) xs + sum_by (λ x. g x - f x) xs
  sum_smaller f g [] = refl
  sum_smaller f g (x ∷ xs) =
      let rest = sum_smaller f g xs in
      omega (arith, rest, sum_by-cons g x xs, sum_by-cons (λ x. min (f x) (g x)) x xs, sum_by-cons (λ x. g x - f x) x xs)

  -- where of three tests as many hold as of two
  three_of_two : (a b c d f : X → Bool) (xs : List X) → Every (λ x. cond (a x) 1 0 + cond (b x) 1 0 + cond (c x) 1 0 ≡ cond (d x) 1 0 + cond (f x) 1 0) xs →
      count_by a xs + count_by b xs + count_by c xs ≡ count_by d xs + count_by f xs
  three_of_two a b c d f [] all = refl
  three_of_two a b c d f (x ∷ xs) all =
      let rest = three_of_two a b c d f xs all.1 in
      let this = all.0 in
      omega (
        arith,
        rest,
        this,
        sum_by-cons (λ x. cond (a x) 1 0) x xs,
        sum_by-cons (λ x. cond (b x) 1 0) x xs,
        sum_by-cons (λ x. cond (c x) 1 0) x xs,
        sum_by-cons (λ x. cond (d x) 1 0) x xs,
        sum_by-cons (λ x. cond (f x) 1 0) x xs,
      )

  count_fewer : (p q : X → Bool) → ((x : X) → p x ≡ true → q x ≡ true) → (xs : List X) → count_by p xs ≤ count_by q xs
  count_fewer p q h [] = omega arith
  count_fewer p q h (x ∷ xs) =
      let rest = count_fewer p q h xs in
      let this = fewer_by (p x) (q x) (h x) in
      omega (arith, rest, this, sum_by-cons (λ x. cond (p x) 1 0) x xs, sum_by-cons (λ x. cond (q x) 1 0) x xs)

-- ---- a winner on a list is on one

none_if : (t : Bool) → ◌≡◌ {A = ℕ} (cond t 0 0) 0
none_if true = refl
none_if false = refl

module _ (e : Election) (is : IsElection e) where
  -- of the lists one is that of a Land and a party
  of_pair : (a p : ℕ) → has_list e a p ≡ true → sum_by (λ l. cond ((nat_eq a l.0 && nat_eq p l.1) && true) 1 0) (lists_of e) ≡ 1
  of_pair a p has =
      let n = lists_are_named e a p is has in
      let cell : ℕ → ℕ → ℕ = λ land q. cond ((nat_eq a land && nat_eq p q) && true) 1 0 in
      let F : ℕ → ℕ → ℕ = λ land q. cond (has_list e land q) (cell land q) 0 in
      let in_land : (land : ℕ) → sum_by (λ l. cell l.0 l.1) (map (λ q. (land, q)) (filter (has_list e land) (parties e))) ≡ F land p = λ land.
      sum_mapped (λ l. cell l.0 l.1) (λ q. (land, q)) (filter (has_list e land) (parties e))
      ∙ sum_filter (has_list e land) (cell land) (parties e)
      ∙ one_term (F land) p 0 (parties_of e)
      (λ q ne. ap (λ same. cond (has_list e land q) (cond ((nat_eq a land && same) && true) 1 0) 0) (ne_eqb p q (λ h. ne (sym h)))
      ∙ ap (λ t. cond (has_list e land q) (cond (t && true) 1 0) 0) (and_right (nat_eq a land) false refl) ∙ none_if (has_list e land q))
      (omega arith) (let m = n.1 in omega (arith, m)) in
      sum_pieces (λ l. cell l.0 l.1) (λ land. map (λ q. (land, q)) (filter (has_list e land) (parties e))) (lands e)
      ∙ sum_agree (λ land. sum_by (λ l. cell l.0 l.1) (map (λ q. (land, q)) (filter (has_list e land) (parties e)))) (λ land. F land p) (lands e)
      (always (λ land. sum_by (λ l. cell l.0 l.1) (map (λ q. (land, q)) (filter (has_list e land) (parties e))) ≡ F land p) in_land (lands e))
      ∙ one_term (λ land. F land p) a 0 (lands_of e)
      (λ land ne. ap (λ same. cond (has_list e land p) (cond ((same && nat_eq p p) && true) 1 0) 0) (ne_eqb a land (λ h. ne (sym h))) ∙ none_if (has_list e land p))
      (omega arith) (let m = n.0 in omega (arith, m))
      ∙ ap (λ t. cond t (cond ((nat_eq a a && nat_eq p p) && true) 1 0) 0) has
      ∙ ap (λ t. cond ((t && nat_eq p p) && true) 1 0) (eq-eqb a a refl)
      ∙ ap (λ t. cond (t && true) 1 0) (eq-eqb p p refl)

  module _ (b : BookTree) where
    once : (w : Win) (o : Option ℕ) (on : Bool) → (on ≡ true → is_on_list b.eligible e (record w { party = o }) ≡ true) →
        sum_by (λ l. cond ((is_in l.0 (record w { party = o }) && is_of l.1 (record w { party = o })) && on) 1 0) (lists_of e) ≡ cond on 1 0
    once w o false h =
        sum_agree (λ l. cond ((is_in l.0 (record w { party = o }) && is_of l.1 (record w { party = o })) && false) 1 0) (λ l. 0) (lists_of e)
        (always (λ l. cond ((is_in l.0 (record w { party = o }) && is_of l.1 (record w { party = o })) && false) 1 0 ≡ 0)
        (λ l. ap (λ t. cond t 1 0) (and_right (is_in l.0 (record w { party = o }) && is_of l.1 (record w { party = o })) false refl)) (lists_of e))
        ∙ sum_zero (lists_of e)
    once w None true h = absurd (false≢true (h refl))
    once w (Some p) true h = of_pair w.land p (and_parts (is_eligible b.eligible e p) (has_list e w.land p) (h refl)).1

    -- so all lists together have the winners who are on a list
    all_lists : (places : List Placed) → Every (λ z. is_on z.1 ≡ true → is_on_list b.eligible e z.0 ≡ true) (zip e.wins places) →
        sum_by (λ l. placed_on e places l.0 l.1) (lists_of e) ≡ count_by (λ z. is_on z.1) (zip e.wins places)
    all_lists places all =
        sum_swap (λ l (z : Win × Placed). cond ((is_in l.0 z.0 && is_of l.1 z.0) && is_on z.1) 1 0) (lists_of e) (zip e.wins places)
        ∙ sum_agree (λ z. sum_by (λ l. cond ((is_in l.0 z.0 && is_of l.1 z.0) && is_on z.1) 1 0) (lists_of e)) (λ z. cond (is_on z.1) 1 0) (zip e.wins places)
        (every_weaker (λ z. is_on z.1 ≡ true → is_on_list b.eligible e z.0 ≡ true) (λ z. sum_by (λ l. cond ((is_in l.0 z.0 && is_of l.1 z.0) && is_on z.1) 1 0) (lists_of e) ≡ cond (is_on z.1) 1 0)
        (λ z h. once z.0 z.0.party (is_on z.1) h) (zip e.wins places) all)

    -- ---- all winners of lists

    kept_is : (t : Bool) → is_on (if t then placed.OnList else placed.Single) ≡ t
    kept_is true = refl
    kept_is false = refl

    all_winners : sum_by (winners_on b e) (lists_of e) ≡ count_by (is_on_list b.eligible e) e.wins
    all_winners =
        sum_agree (winners_on b e) (λ l. placed_on e (map (kept_place b e) e.wins) l.0 l.1) (lists_of e)
        (every_weaker (λ l. IsListOf e l.0 l.1) (λ l. winners_on b e l ≡ placed_on e (map (kept_place b e) e.wins) l.0 l.1)
        (λ l there. sym (kept_direct b e l.0 l.1 there.in_lands there.in_parties)) (lists_of e) (are_lists e))
        ∙ all_lists (map (kept_place b e) e.wins)
        (map_every (λ w p. is_on p ≡ true → is_on_list b.eligible e w ≡ true) (kept_place b e) (λ w on. sym (kept_is (is_on_list b.eligible e w)) ∙ on) e.wins)
        ∙ count_pairs (kept_place b e) (λ z. is_on z.1) e.wins
        ∙ count_agree (λ w. is_on (kept_place b e w)) (is_on_list b.eligible e) (λ w. kept_is (is_on_list b.eligible e w)) e.wins

    -- ---- where one winner is

    on_has : (w : Win) (o : Option ℕ) (p : Placed) → IsCoveredPlace b e (record w { party = o }) p → is_on p ≡ true → is_on_list b.eligible e (record w { party = o }) ≡ true
    on_has w None p h on = absurd (false≢true (sym (ap is_on (h.alone refl)) ∙ on))
    on_has w (Some q) p h on =
        elim (cases_Bool (is_on_list b.eligible e (record w { party = Some q }))) [
          | inl yes' ↦ yes'
          | inr no' ↦ absurd (false≢true (sym (ap is_on (h.no_list (λ none. cc) no')) ∙ on))
        ]

    abbrev Places : Win → Placed → Type 0
    Places w p =
        cond (is_unseated p) 1 0 + cond (is_on p) 1 0 + cond (is_none w.party) 1 0
        ≡ cond (is_on_list b.eligible e w) 1 0 + cond (not (is_on_list b.eligible e w)) 1 0

    one_or_other : (t : Bool) → cond {A = ℕ} t 1 0 + cond (not t) 1 0 ≡ 1
    one_or_other true = refl
    one_or_other false = refl

    place_one : (w : Win) (o : Option ℕ) (p : Placed) → IsCoveredPlace b e (record w { party = o }) p → Places (record w { party = o }) p
    place_one w None p h =
        subst (Places (record w { party = None })) (sym (h.alone refl)) refl
    place_one w (Some q) p h =
        let all = one_or_other (is_on_list b.eligible e (record w { party = Some q })) in
        elim (cases_Bool (is_on_list b.eligible e (record w { party = Some q }))) [
          | inl yes' ↦ elim (h.on_list yes') [
            | inl here ↦ subst (Places (record w { party = Some q })) (sym here) (sym all)
            | inr gone ↦ subst (Places (record w { party = Some q })) (sym gone) (sym all)
          ]
          | inr no' ↦ subst (Places (record w { party = Some q })) (sym (h.no_list (λ none. cc) no')) (sym all)
        ]

    outside_if : (w : Win) (o : Option ℕ) → is_none o ≡ true → not (is_on_list b.eligible e (record w { party = o })) ≡ true
    outside_if w None h = refl
    outside_if w (Some q) h = absurd (false≢true h)

-- ---- the law

leaves : (b : BookTree) → is_typed b ≡ true → b.last.seating ≡ seating.Cover → LeavesTheOverhang b
leaves b typed cover e t base is h means =
    let end = end_of b e t means in
    let same : end.base ≡ base = one_base b e typed end.base base end.is_base h in
    let covered : IsCovered b e base end.records (outcome.Table end.table) =
    subst (λ c. IsCovered b e c end.records (outcome.Table end.table)) same (covered_end b e end.base end.records b.last.seating cover end.table end.seated) in
    let all = zip (lists_of e) covered.choices in
    let table = (table_without_faults (filter_map (tie_of (is_eligible b.eligible e) e (length b.stages)) all) end.table (cover_table b e base end.records all) covered.is).1 in
    let placed : t.placed ≡ covered_places (is_eligible b.eligible e) e all = end.placed ∙ ap (λ u. u.placed) table in
    let long : length t.placed ≡ length e.wins = ap length placed ∙ length-map (enumerate_from 0 e.wins) _ ∙ length-enumerate_from 0 e.wins in
    let Z = zip e.wins t.placed in
    let each : Every (λ z. IsCoveredPlace b e z.0 z.1) Z = zip_every (IsCoveredPlace b e) e.wins t.placed (cover_places b e t cover means) in
    let lists : sum_by (λ l. placed_on e t.placed l.0 l.1) (lists_of e) ≡ sum_by (λ l. min (base_seats e base l) (winners_on b e l)) (lists_of e) =
    ap (λ ps. sum_by (λ l. placed_on e ps l.0 l.1) (lists_of e)) end.placed
    ∙ sum_agree (λ l. placed_on e end.table.placed l.0 l.1) (λ l. min (base_seats e base l) (winners_on b e l)) (lists_of e)
    (every_weaker (λ l. IsListOf e l.0 l.1) (λ l. placed_on e end.table.placed l.0 l.1 ≡ min (base_seats e base l) (winners_on b e l))
    (λ l there. covered_winners b e base end.records end.table is covered l.0 l.1 there) (lists_of e) (are_lists e)) in
    let on = all_lists e is b t.placed (every_weaker (λ z. IsCoveredPlace b e z.0 z.1) (λ z. is_on z.1 ≡ true → is_on_list b.eligible e z.0 ≡ true) (λ z c. on_has e is b z.0 z.0.party z.1 c) Z each) in
    let winners = all_winners e is b in
    let parts = sum_smaller (base_seats e base) (winners_on b e) (lists_of e) in
    let sums = three_of_two (λ z. is_unseated z.1) (λ z. is_on z.1) (λ z. is_none z.0.party) (λ z. is_on_list b.eligible e z.0) (λ z. not (is_on_list b.eligible e z.0)) Z
    (every_weaker (λ z. IsCoveredPlace b e z.0 z.1) (λ z. Places e is b z.0 z.1) (λ z c. place_one e is b z.0 z.0.party z.1 c) Z each) in
    let none = count_second is_unseated e.wins t.placed long in
    let alone = count_first (λ w. is_none w.party) e.wins t.placed long in
    let has = count_first (is_on_list b.eligible e) e.wins t.placed long in
    let out = count_first (λ w. not (is_on_list b.eligible e w)) e.wins t.placed long in
    let fewer : independents e ≤ outside b e = count_fewer (λ w. is_none w.party) (λ w. not (is_on_list b.eligible e w)) (λ w n. outside_if e is b w w.party n) e.wins in
    omega (arith, lists, on, winners, parts, sums, none, alone, has, out, fewer)

pub unseated_of_2023 : UnseatedOf2023
unseated_of_2023 at = (leaves (law_of_2023 at) refl refl, leaves (law_of_2023_order at) refl refl)
