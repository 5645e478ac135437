-- The column of the awards of a split or a growth: at an entry's place stand its seats.
use Rattle.std.proofs.Common.{◌≡◌, ℕ, zero, suc, ◌<◌, Bool, true, false, List, [], ◌∷◌, ◌++◌, Option, Some, length, get_or, nat_eq, arith, refl, sym, ap, subst, ◌∙◌}
use Rattle.std.specs.Prelude.{zip, flat_map, find, filter, slice_get, option_map, unwrap_or}
use Rattle.std.specs.List.{AllByRecursion as Every, AllZip, IsDistinct}
use Rattle.std.proofs.lemmas.Bool.{cond-true, cond-false, eq-eqb, and_from, and_right}
use Rattle.std.proofs.lemmas.List.{append-nil}
use Rattle.std.proofs.lemmas.List.Folds.{flat_map-map}
use Rattle.std.proofs.lemmas.List.FromFn.{get_or-map-range_with_len}
use Rattle.std.proofs.lemmas.Option.{none-some, same_Some}
use Rattle.sl_base_terms.specs.declared.shape.Shape.{Shape}
use Rattle.sl_base_terms.specs.declared.shape.Shape.TheVariants as shape
use Rattle.sl_law_meaning.specs.declared.fault.Scope.TheVariants as scope
use Rattle.sl_law_meaning.specs.declared.fault.Item.{Item}
use Rattle.sl_law_meaning.specs.declared.fault.Item.TheVariants as item
use Rattle.sl_law_meaning.specs.returns.Election.{Election, lands_of, parties_of, has_list}
use Rattle.sl_law_meaning.specs.returns.Facts.{lands, parties}
use Rattle.sl_law_meaning.specs.meaning.Scopes.{same_item, Group, scopes, entries_of, lists_in_land, lists_of_party, place, told_of, pair_column}
use Rattle.sl_law_meaning.specs.meaning.Splits.{Award, awarded}
use Rattle.sl_law_meaning.proofs.meaning.DistinctLists.{always, every_weaker, Apart, maps_apart, distinct_nil, distinct_pieces, distinct_range}
use Rattle.sl_law_meaning.proofs.meaning.ListPlaces.{by_list_at}
use Rattle.sl_law_meaning.proofs.meaning.ScopeRecords.{item_flips, entries_differ, lists_in_land_differ, lists_of_party_differ, lands_apart}

-- ---- the same item

item_itself : (i : Item) → same_item i i ≡ true
item_itself (item.Party p) = eq-eqb p p refl
item_itself (item.Land l) = eq-eqb l l refl
item_itself (item.List l p) = and_from (nat_eq l l) (nat_eq p p) (eq-eqb l l refl) (eq-eqb p p refl)
item_itself (item.Win w) = eq-eqb w w refl

-- ---- what pairs say of an item

-- the number of the first pair, if it is of the item; and else what the others say
told_here : (i : Item) (k : Item) (n : ℕ) (pairs : List (Item × ℕ)) → same_item i k ≡ true → told_of ((k, n) ∷ pairs) i ≡ n
told_here i k n pairs is = ap (λ (o : Option (Item × ℕ)). unwrap_or (option_map (λ x. x.1) o) 0) (cond-true (same_item i k) (Some (k, n)) (find (λ x. same_item i x.0) pairs) is)

told_later : (i : Item) (k : Item) (n : ℕ) (pairs : List (Item × ℕ)) → same_item i k ≡ false → told_of ((k, n) ∷ pairs) i ≡ told_of pairs i
told_later i k n pairs is = ap (λ (o : Option (Item × ℕ)). unwrap_or (option_map (λ x. x.1) o) 0) (cond-false (same_item i k) (Some (k, n)) (find (λ x. same_item i x.0) pairs) is)

-- what is at a place of a list is one of those of which a fact holds
pub every_at : {X : Type 0} (P : X → Type 0) (xs : List X) (i : ℕ) (x : X) → Every P xs → slice_get xs i ≡ Some x → P x
every_at P [] i x all at = absurd (none-some x at)
every_at P (y ∷ ys) zero x all at = subst P (same_Some y x at) all.0
every_at P (y ∷ ys) (suc i) x all at = every_at P ys i x all.1 at

-- what holds of a list in two parts holds of each
every_parts : {X : Type 0} (P : X → Type 0) (xs ys : List X) → Every P (xs ++ ys) → Every P xs × Every P ys
every_parts P [] ys all = (tt, all)
every_parts P (x ∷ xs) ys all = let rest = every_parts P xs ys all.1 in ((all.0, rest.0), rest.1)

-- other entries than the item say nothing of it
told_past : (entries : List Item) (s : List ℕ) (more : List (Item × ℕ)) (i : Item) → Every (λ k. same_item i k ≡ false) entries → told_of (zip entries s ++ more) i ≡ told_of more i
told_past [] s more i all = refl
told_past (k ∷ entries) [] more i all = refl
told_past (k ∷ entries) (n ∷ s) more i all = told_later i k n (zip entries s ++ more) all.0 ∙ told_past entries s more i all.1

-- an entry of a scope has its own number
told_in_scope : (entries : List Item) (s : List ℕ) (more : List (Item × ℕ)) (j : ℕ) (i : Item) → IsDistinct same_item entries → length s ≡ length entries → slice_get entries j ≡ Some i →
    told_of (zip entries s ++ more) i ≡ get_or s j 0
unfolding IsDistinct
told_in_scope [] s more j i differ long at = absurd (none-some i at)
told_in_scope (k ∷ entries) [] more j i differ long at = absurd (omega (arith, long))
told_in_scope (k ∷ entries) (n ∷ s) more zero i differ long at =
    told_here i k n (zip entries s ++ more) (ap (same_item i) (same_Some k i at) ∙ item_itself i)
told_in_scope (k ∷ entries) (n ∷ s) more (suc j) i differ long at =
    told_later i k n (zip entries s ++ more) (item_flips i k ∙ every_at (λ y. same_item k y ≡ false) entries j i differ.0 at)
    ∙ told_in_scope entries s more j i differ.1 (omega (arith, long)) at

-- ---- a list in two parts without an element that comes twice

distinct_parts : {X : Type 0} (same : X → X → Bool) (xs ys : List X) → IsDistinct same (xs ++ ys) → IsDistinct same xs × IsDistinct same ys × Apart same xs ys
unfolding IsDistinct
distinct_parts same [] ys d = (tt, d, tt)
distinct_parts same (x ∷ xs) ys d =
    let first = every_parts (λ y. same x y ≡ false) xs ys d.0 in
    let rest = distinct_parts same xs ys d.1 in
    ((first.0, rest.0), rest.1, (first.1, rest.2))

-- ---- the entries of all scopes

-- what holds of each element of each piece holds of those of the piece at a place
piece_at : {X Y : Type 0} (P : Y → Type 0) (f : X → List Y) (xs : List X) (m : ℕ) (x : X) → Every P (flat_map f xs) → slice_get xs m ≡ Some x → Every P (f x)
piece_at P f [] m x all at = absurd (none-some x at)
piece_at P f (y ∷ ys) zero x all at = subst (λ z. Every P (f z)) (same_Some y x at) (every_parts P (f y) (flat_map f ys) all).0
piece_at P f (y ∷ ys) (suc m) x all at = piece_at P f ys m x (every_parts P (f y) (flat_map f ys) all).1 at

-- entry j of scope m has number j of the scope's award, where no entry of the scopes comes twice
pub told_entry : (groups : List Group) (awards : List Award) → IsDistinct same_item (flat_map (λ g. g.entries) groups) → AllZip (λ g a. length (awarded a) ≡ length g.entries) groups awards →
    (m j : ℕ) (g : Group) (a : Award) (i : Item) → slice_get groups m ≡ Some g → slice_get awards m ≡ Some a → slice_get g.entries j ≡ Some i →
    told_of (flat_map (λ x. zip x.0.entries (awarded x.1)) (zip groups awards)) i ≡ get_or (awarded a) j 0
told_entry [] awards differ long m j g a i at_group at_award at = absurd (none-some g at_group)
told_entry (h ∷ groups) [] differ long m j g a i at_group at_award at = absurd (none-some a at_award)
told_entry (h ∷ groups) (b ∷ awards) differ long zero j g a i at_group at_award at =
    told_in_scope h.entries (awarded b) (flat_map (λ x. zip x.0.entries (awarded x.1)) (zip groups awards)) j i
    (distinct_parts same_item h.entries (flat_map (λ g. g.entries) groups) differ).0 long.0
    (subst (λ (g : Group). slice_get g.entries j ≡ Some i) (sym (same_Some h g at_group)) at)
    ∙ ap (λ a. get_or (awarded a) j 0) (same_Some b a at_award)
told_entry (h ∷ groups) (b ∷ awards) differ long (suc m) j g a i at_group at_award at =
    let others : Every (λ k. same_item i k ≡ false) h.entries =
    every_weaker (λ k. Every (λ y. same_item k y ≡ false) (flat_map (λ g. g.entries) groups)) (λ k. same_item i k ≡ false)
    (λ k all. item_flips i k ∙ every_at (λ y. same_item k y ≡ false) g.entries j i (piece_at (λ y. same_item k y ≡ false) (λ g. g.entries) groups m g all at_group) at)
    h.entries (distinct_parts same_item h.entries (flat_map (λ g. g.entries) groups) differ).2 in
    told_past h.entries (awarded b) (flat_map (λ x. zip x.0.entries (awarded x.1)) (zip groups awards)) i others
    ∙ told_entry groups awards (distinct_parts same_item h.entries (flat_map (λ g. g.entries) groups) differ).1 long.1 m j g a i at_group at_award at

parties_apart : (e : Election) (p q : ℕ) → nat_eq p q ≡ false → Apart same_item (lists_of_party e p) (lists_of_party e q)
parties_apart e p q differ =
    maps_apart same_item (λ land. item.List land p) (λ land. item.List land q) (λ l k. and_right (nat_eq l k) (nat_eq p q) differ)
    (filter (λ land. has_list e land p) (lands e)) (filter (λ land. has_list e land q) (lands e))

-- no entry is in two scopes, nor twice in one
pub scope_entries_differ : (e : Election) (over votes : Shape) → IsDistinct same_item (flat_map (λ g. g.entries) (scopes e over votes))
scope_entries_differ e shape.One votes = subst (IsDistinct same_item) (sym (append-nil (entries_of e votes))) (entries_differ e votes)
scope_entries_differ e shape.Party votes =
    subst (IsDistinct same_item) (sym (flat_map-map (λ (g : Group). g.entries) (λ party. record { scope = scope.Party party; amount_place = party; entries = lists_of_party e party }) (parties e)))
    (distinct_pieces same_item nat_eq (lists_of_party e) (parties_apart e) (parties e) (always (λ p. IsDistinct same_item (lists_of_party e p)) (lists_of_party_differ e) (parties e)) (distinct_range 0 (parties_of e)))
scope_entries_differ e shape.Land votes =
    subst (IsDistinct same_item) (sym (flat_map-map (λ (g : Group). g.entries) (λ land. record { scope = scope.Land land; amount_place = land; entries = lists_in_land e land }) (lands e)))
    (distinct_pieces same_item nat_eq (lists_in_land e) (lands_apart e) (lands e) (always (λ l. IsDistinct same_item (lists_in_land e l)) (lists_in_land_differ e) (lands e)) (distinct_range 0 (lands_of e)))
scope_entries_differ e shape.List votes = distinct_nil same_item

-- ---- the column that pairs make: at an entry's place stands what they say of it

module _ (e : Election) (pairs : List (Item × ℕ)) where
  pub party_cell : (party : ℕ) → party < parties_of e → get_or (pair_column e shape.Party pairs) (place e (item.Party party)) 0 ≡ told_of pairs (item.Party party)
  party_cell party within = get_or-map-range_with_len (λ party. told_of pairs (item.Party party)) 0 (parties_of e) party party 0 within (omega arith)

  pub land_cell : (land : ℕ) → land < lands_of e → get_or (pair_column e shape.Land pairs) (place e (item.Land land)) 0 ≡ told_of pairs (item.Land land)
  land_cell land within = get_or-map-range_with_len (λ land. told_of pairs (item.Land land)) 0 (lands_of e) land land 0 within (omega arith)

  pub pair_cell : (land party : ℕ) → land < lands_of e → party < parties_of e → get_or (pair_column e shape.List pairs) (place e (item.List land party)) 0 ≡ told_of pairs (item.List land party)
  pair_cell land party in_lands in_parties = by_list_at e (λ land party. told_of pairs (item.List land party)) land party in_lands in_parties
