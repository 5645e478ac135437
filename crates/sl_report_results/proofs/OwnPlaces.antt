-- Where the entries of a scope stand, and what they are by their places.
use Rattle.std.proofs.Common.{◌≡◌, ℕ, ◌+◌, ◌*◌, ◌<◌, Bool, true, false, ◌&&◌, List, [], ◌∷◌, Option, Some, None, length, get_or, map, filter, count_by, nat_eq, arith, rules, refl, sym, ap, subst, ◌∙◌, inl, inr}
use Rattle.std.specs.Prelude.{All, nat_lt, option_and_then, option_map, position, unwrap_or, slice_index, slice_index_or}
use Rattle.std.specs.List.{AllByRecursion as Every, IsDistinct, position_or_len, range_with_len}
use Rattle.std.proofs.Math.Nat.{mul_comm}
use Rattle.std.proofs.lemmas.Bool.{and_from, and_parts, cases_Bool, cond-false, cond-true, eq-eqb, eqb-true, false_from_ne_true, false≢true, lt-ltb, ltb-true, ne_eqb}
use Rattle.std.proofs.lemmas.List.{length-map}
use Rattle.std.proofs.lemmas.List.Elements.{All-from_recursion, All-map, recursion_from_All}
use Rattle.std.proofs.lemmas.List.FromFn.{get_or-range_with_len, length-range_with_len}
use Rattle.std.proofs.lemmas.Map.Keys.{apart_from_distinct}
use Rattle.std.proofs.lemmas.Nat.{mul-add-lt, same_from_place}
use Rattle.sl_base_terms.specs.declared.shape.Shape.{Shape}
use Rattle.sl_base_terms.specs.declared.shape.Shape.TheVariants as shape
use Rattle.sl_law_meaning.specs.declared.fault.Item.{Item}
use Rattle.sl_law_meaning.specs.declared.fault.Item.TheVariants as item
use Rattle.sl_law_meaning.specs.declared.fault.Scope.{Scope}
use Rattle.sl_law_meaning.specs.declared.fault.Scope.TheVariants as scope
use Rattle.sl_law_meaning.specs.meaning.Scopes.{lists_in_land, place, same_item}
use Rattle.sl_law_meaning.specs.returns.Election.{Election, has_list, lands_of, parties_of}
use Rattle.sl_law_meaning.specs.returns.Facts.{lands, parties}
use Rattle.sl_law_meaning.proofs.meaning.DistinctLists.{distinct_nil, every_filter, every_map, every_pieces, every_weaker}
use Rattle.sl_law_meaning.proofs.meaning.ScopeRecords.{entries_differ, item_flips, lists_in_land_differ, lists_of_party_differ}
use Rattle.sl_law_meaning.specs.declared.table.SeatStep.{SeatStep}
use Rattle.sl_report_parties.proofs.Steps.{first_is, none_is}
use Rattle.sl_report_results.proofs.Tabled.{is_at}
use Rattle.sl_report_results.specs.Places.{IsScope, is_seat_of, items_in, seats_of}
use Rattle.sl_report_results.specs.Scopes.{entry_of}
use Rattle.sl_report_results.specs.declared.columns.Distribution.{Distribution}
use Rattle.sl_report_results.specs.inner.Tables.{AreFirst, AreNumbers, ArePlaces, AreTold, AreWon, entry_by, seat_place}
use Rattle.sl_report_results.specs.inner.Within.{is_of, is_within, own_place, place_by, place_in, shape_in, size_in}

below_range : (n : ℕ) → Every (λ k. k < n) (range_with_len 0 n)
below_range n = recursion_from_All (λ k. k < n) (range_with_len 0 n) (λ k d less. omega (arith, get_or-range_with_len 0 n k d, length-range_with_len 0 n))

same_items : (i j : Item) → same_item i j ≡ true → i ≡ j
same_items (item.Party p) (item.Party q) h = ap item.Party (eqb-true p q h)
same_items (item.Land l) (item.Land k) h = ap item.Land (eqb-true l k h)
same_items (item.List l p) (item.List k q) h =
    let both = and_parts (nat_eq l k) (nat_eq p q) h in
    ap (λ n. item.List n p) (eqb-true l k both.0) ∙ ap (λ n. item.List k n) (eqb-true p q both.1)
same_items (item.Win v) (item.Win w) h = ap item.Win (eqb-true v w h)
same_items i j h = cc

module _ (e : Election) where
  abbrev Own : Shape → Item → Type 0
  Own shape.One i = ⊥
  Own shape.Party i = (p : ℕ) × (i ≡ item.Party p) × (p < parties_of e)
  Own shape.Land i = (l : ℕ) × (i ≡ item.Land l) × (l < lands_of e)
  Own shape.List i = (l : ℕ) × (p : ℕ) × (i ≡ item.List l p) × (l < lands_of e) × (p < parties_of e)

  own : (v : Shape) (i : Item) → is_of e v i ≡ true → Own v i
  own shape.Party (item.Party p) h = (p, refl, ltb-true p (parties_of e) h)
  own shape.Land (item.Land l) h = (l, refl, ltb-true l (lands_of e) h)
  own shape.List (item.List l p) h =
      let both = and_parts (nat_lt l (lands_of e)) (nat_lt p (parties_of e)) h in
      (l, p, refl, ltb-true l (lands_of e) both.0, ltb-true p (parties_of e) both.1)
  own v i h = absurd (false≢true h)

  same_pair : (l p k q : ℕ) → p < parties_of e → q < parties_of e → (nat_eq l k && nat_eq p q) ≡ nat_eq (l * parties_of e + p) (k * parties_of e + q)
  same_pair l p k q here there = elim (cases_Bool (nat_eq l k && nat_eq p q)) [
    | inl t ↦
        let both = and_parts (nat_eq l k) (nat_eq p q) t in
        t ∙ sym (eq-eqb (l * parties_of e + p) (k * parties_of e + q) (ap (λ n. n * parties_of e + p) (eqb-true l k both.0) ∙ ap (λ n. k * parties_of e + n) (eqb-true p q both.1)))
    | inr f ↦ f ∙ sym (ne_eqb (l * parties_of e + p) (k * parties_of e + q) (λ same.
        let both = same_from_place l p k q (parties_of e) here there same in
        false≢true (sym f ∙ and_from (nat_eq l k) (nat_eq p q) (eq-eqb l k both.0) (eq-eqb p q both.1))))
  ]

  same_place : (v : Shape) (i j : Item) → is_of e v i ≡ true → is_of e v j ≡ true → same_item i j ≡ nat_eq (place e i) (place e j)
  same_place v i j a b = by v (own v i a) (own v j b) where
    by : (v : Shape) → Own v i → Own v j → same_item i j ≡ nat_eq (place e i) (place e j)
    by shape.One a b = absurd a
    by shape.Party a b = rw (a.1, b.1) refl
    by shape.Land a b = rw (a.1, b.1) refl
    by shape.List a b = rw (a.2, b.2) (same_pair a.0 a.1 b.0 b.1 a.4 b.4)

  -- an entry that the scope can have
  abbrev is_in : Shape → Scope → Item → Bool
  is_in votes s i = is_of e (shape_in votes s) i && is_within s i

  abbrev IsIn : Shape → Scope → Item → Type 0
  IsIn votes s i = (is_of e (shape_in votes s) i ≡ true) × (is_within s i ≡ true)

  same_by : (votes : Shape) (s : Scope) (i j : Item) → IsIn votes s i → IsIn votes s j → same_item i j ≡ nat_eq (place_by e s i) (place_by e s j)
  same_by votes scope.All i j a b = same_place votes i j a.0 b.0
  same_by votes (scope.Party party) i j a b =
      let x = own shape.List i a.0 in
      let y = own shape.List j b.0 in
      let here : x.1 ≡ party = eqb-true x.1 party (subst (λ i. is_within (scope.Party party) i ≡ true) x.2 a.1) in
      let there : y.1 ≡ party = eqb-true y.1 party (subst (λ i. is_within (scope.Party party) i ≡ true) y.2 b.1) in
      rw (x.2, y.2, eq-eqb x.1 y.1 (here ∙ sym there)) (and_true (nat_eq x.0 y.0))
    where
      and_true : (b : Bool) → (b && true) ≡ b
      and_true true = refl
      and_true false = refl
  same_by votes (scope.Land land) i j a b =
      let x = own shape.List i a.0 in
      let y = own shape.List j b.0 in
      let here : x.0 ≡ land = eqb-true x.0 land (subst (λ i. is_within (scope.Land land) i ≡ true) x.2 a.1) in
      let there : y.0 ≡ land = eqb-true y.0 land (subst (λ i. is_within (scope.Land land) i ≡ true) y.2 b.1) in
      rw (x.2, y.2, eq-eqb x.0 y.0 (here ∙ sym there)) refl
  same_by votes (scope.List land party) i j a b = absurd (false≢true a.1)

  in_size : (votes : Shape) (s : Scope) (i : Item) → is_in votes s i ≡ true → place_by e s i < size_in e votes s
  in_size votes s i h = by s (and_parts (is_of e (shape_in votes s) i) (is_within s i) h) where
    of_column : (v : Shape) → Own v i → place e i < size_in e v scope.All
    of_column shape.One a = absurd a
    of_column shape.Party a = rw a.1 a.2
    of_column shape.Land a = rw a.1 a.2
    of_column shape.List a = rw a.2 (omega (arith, mul-add-lt a.0 (parties_of e) a.1 (lands_of e) a.3 a.4, mul_comm (parties_of e) (lands_of e)))

    by : (s : Scope) → IsIn votes s i → place_by e s i < size_in e votes s
    by scope.All a = of_column votes (own votes i a.0)
    by (scope.Party party) a = let x = own shape.List i a.0 in rw x.2 x.3
    by (scope.Land land) a = let x = own shape.List i a.0 in rw x.2 x.4
    by (scope.List land party) a = absurd (false≢true a.1)

  -- ---- the entries of a scope

  list_in : (votes : Shape) (s : Scope) (l p : ℕ) → shape_in votes s ≡ shape.List → is_within s (item.List l p) ≡ true → l < lands_of e → p < parties_of e → is_in votes s (item.List l p) ≡ true
  list_in votes s l p is within here there = rw (is, within, lt-ltb l (lands_of e) here, lt-ltb p (parties_of e) there) refl

  in_land : (votes : Shape) (s : Scope) (l : ℕ) → shape_in votes s ≡ shape.List → ((p : ℕ) → is_within s (item.List l p) ≡ true) → l < lands_of e → Every (λ i. is_in votes s i ≡ true) (lists_in_land e l)
  in_land votes s l is within less =
      every_map (λ i. is_in votes s i ≡ true) (λ party. item.List l party) (filter (has_list e l) (parties e))
      (every_filter (λ p. is_in votes s (item.List l p) ≡ true) (has_list e l) (parties e)
      (every_weaker (λ p. p < parties_of e) (λ p. is_in votes s (item.List l p) ≡ true) (λ p there. list_in votes s l p is (within p) less there) (parties e) (below_range (parties_of e))))

  entries_in : (votes : Shape) (s : Scope) → IsScope e s → Every (λ i. is_in votes s i ≡ true) (items_in e votes s)
  entries_in shape.One scope.All h = tt
  entries_in shape.Party scope.All h =
      every_map (λ i. is_in shape.Party scope.All i ≡ true) (λ party. item.Party party) (parties e)
      (every_weaker (λ p. p < parties_of e) (λ p. is_in shape.Party scope.All (item.Party p) ≡ true) (λ p less. and_from (nat_lt p (parties_of e)) true (lt-ltb p (parties_of e) less) refl) (parties e) (below_range (parties_of e)))
  entries_in shape.Land scope.All h =
      every_map (λ i. is_in shape.Land scope.All i ≡ true) (λ land. item.Land land) (lands e)
      (every_weaker (λ l. l < lands_of e) (λ l. is_in shape.Land scope.All (item.Land l) ≡ true) (λ l less. and_from (nat_lt l (lands_of e)) true (lt-ltb l (lands_of e) less) refl) (lands e) (below_range (lands_of e)))
  entries_in shape.List scope.All h =
      every_pieces (λ i. is_in shape.List scope.All i ≡ true) (lists_in_land e) (lands e)
      (every_weaker (λ l. l < lands_of e) (λ l. Every (λ i. is_in shape.List scope.All i ≡ true) (lists_in_land e l)) (λ l less. in_land shape.List scope.All l refl (λ p. refl) less) (lands e) (below_range (lands_of e)))
  entries_in votes (scope.Party party) h =
      every_map (λ i. is_in votes (scope.Party party) i ≡ true) (λ land. item.List land party) (filter (λ land. has_list e land party) (lands e))
      (every_filter (λ l. is_in votes (scope.Party party) (item.List l party) ≡ true) (λ land. has_list e land party) (lands e)
      (every_weaker (λ l. l < lands_of e) (λ l. is_in votes (scope.Party party) (item.List l party) ≡ true) (λ l less. list_in votes (scope.Party party) l party refl (eq-eqb party party refl) less h) (lands e) (below_range (lands_of e))))
  entries_in votes (scope.Land land) h = in_land votes (scope.Land land) land refl (λ p. eq-eqb land land refl) h
  entries_in votes (scope.List land party) h = tt

  differ : (votes : Shape) (s : Scope) → IsDistinct same_item (items_in e votes s)
  differ votes scope.All = entries_differ e votes
  differ votes (scope.Party party) = lists_of_party_differ e party
  differ votes (scope.Land land) = lists_in_land_differ e land
  differ votes (scope.List land party) = distinct_nil same_item

  item_itself : (i : Item) → same_item i i ≡ true
  item_itself (item.List l p) = rw (eq-eqb l l refl, eq-eqb p p refl) refl
  item_itself i = search (rules, eq-eqb)

  -- each entry has its own number
  number_is : (votes : Shape) (s : Scope) (k : ℕ) (d : Item) → k < length (items_in e votes s) → position (same_item (get_or (items_in e votes s) k d)) (items_in e votes s) ≡ Some k
  number_is votes s k d less =
      let items = items_in e votes s in
      sym (first_is (same_item (get_or items k d)) items k d less
      (λ j before. item_flips (get_or items k d) (get_or items j d) ∙ apart_from_distinct same_item items j k d (differ votes s) before less)
      (item_itself (get_or items k d)))

  -- ---- by their places

  abbrev pub place_or : Shape → Scope → Item → ℕ
  place_or votes s i = unwrap_or (place_in e votes s i) 0

  placed : (votes : Shape) (s : Scope) (i : Item) → is_in votes s i ≡ true → place_in e votes s i ≡ Some (place_by e s i)
  placed votes s i h = cond-true (is_in votes s i) (Some (place_by e s i)) None h

  pub places_below : (votes : Shape) (s : Scope) → IsScope e s → All (λ n. n < size_in e votes s) (map (place_or votes s) (items_in e votes s))
  places_below votes s h =
      All-map (λ n. n < size_in e votes s) (place_or votes s) (items_in e votes s)
      (All-from_recursion (λ i. place_or votes s i < size_in e votes s) (items_in e votes s)
      (every_weaker (λ i. is_in votes s i ≡ true) (λ i. place_or votes s i < size_in e votes s) (λ i t. rw (placed votes s i t) (in_size votes s i t)) (items_in e votes s) (entries_in votes s h)))

  lens_same : (p : Item → Bool) (f : Item → ℕ) (x : ℕ) (items : List Item) → Every (λ j. p j ≡ nat_eq x (f j)) items → position_or_len (nat_eq x) (map f items) ≡ position_or_len p items
  lens_same p f x [] all = refl
  lens_same p f x (j ∷ js) all = rw (all.0, lens_same p f x js all.1) refl

  pub numbered : (votes : Shape) (s : Scope) (numbers : List (Option ℕ)) → IsScope e s → AreFirst (map (place_or votes s) (items_in e votes s)) (size_in e votes s) numbers → AreNumbers e votes s (items_in e votes s) numbers
  numbered votes s numbers h first = λ i. elim (cases_Bool (is_in votes s i)) [
    | inl t ↦
        let items = items_in e votes s in
        let x = place_by e s i in
        let same : Every (λ j. same_item i j ≡ nat_eq x (place_or votes s j)) items =
        every_weaker (λ j. is_in votes s j ≡ true) (λ j. same_item i j ≡ nat_eq x (place_or votes s j))
        (λ j u. same_by votes s i j (and_parts (is_of e (shape_in votes s) i) (is_within s i) t) (and_parts (is_of e (shape_in votes s) j) (is_within s j) u) ∙ rw (placed votes s j u) refl) items (entries_in votes s h) in
        ap (option_and_then (λ n. slice_index_or numbers n None)) (placed votes s i t) ∙ first x (in_size votes s i t)
        ∙ rw (lens_same (same_item i) (place_or votes s) x items same, length-map items (place_or votes s)) refl
    | inr f ↦
        let items = items_in e votes s in
        ap (option_and_then (λ n. slice_index_or numbers n None)) (cond-false (is_in votes s i) (Some (place_by e s i)) None f)
        ∙ none_is (same_item i) items i (λ k less. false_from_ne_true (same_item i (get_or items k i)) (λ u.
        false≢true (sym f ∙ ap (is_in votes s) (same_items i (get_or items k i) u) ∙ All-from_recursion (λ j. is_in votes s j ≡ true) items (entries_in votes s h) k i less)))
  ]

  -- ---- the seats that steps won

  at_entry : (v : Shape) (i j : Item) → is_of e v i ≡ true → is_at (place e i) (own_place e v j) ≡ same_item j i
  at_entry v i j h = elim (cases_Bool (is_of e v j)) [
    | inl t ↦ rw t (sym (same_place v j i t h))
    | inr f ↦ rw f (sym (false_from_ne_true (same_item j i) (λ u. false≢true (sym f ∙ ap (is_of e v) (same_items j i u) ∙ h))))
  ]

  pub seats_counted : (v : Shape) (stage : ℕ) (steps : List SeatStep) (i : Item) → is_of e v i ≡ true → count_by (λ s. is_at (place e i) (seat_place e v stage s)) steps ≡ seats_of stage steps i
  seats_counted v stage steps i h = ap (λ p. count_by p steps) (λ t s. each s t) where
    each : (s : SeatStep) → is_at (place e i) (seat_place e v stage s) ≡ is_seat_of stage i s
    each s = elim (cases_Bool (nat_eq s.stage stage)) [
      | inl t ↦ rw t (at_entry v i s.entry h)
      | inr f ↦ rw f refl
    ]

  -- what is told of the entries of a scope
  pub told : (votes : Shape) (s : Scope) (stage : ℕ) (steps : List SeatStep) (lot cells : List ℕ) (places : List (Option ℕ)) → IsScope e s → AreWon e (shape_in votes s) stage steps cells → ArePlaces lot (length (items_in e votes s)) places →
      AreTold e stage steps lot cells places (items_in e votes s)
  told votes s stage steps lot cells places h won drawn =
      let items = items_in e votes s in
      record {
        seats = All-from_recursion (λ i. slice_index cells (place e i) ≡ seats_of stage steps i) items
            (every_weaker (λ i. is_in votes s i ≡ true) (λ i. slice_index cells (place e i) ≡ seats_of stage steps i) (λ i t. won i (and_parts (is_of e (shape_in votes s) i) (is_within s i) t).0) items (entries_in votes s h));
        drawn = λ k d less. drawn k less ∙ ap (option_and_then (λ n. option_map (λ m. m + 1) (position (nat_eq n) lot))) (sym (number_is votes s k d less));
      }

  pub entry_told : (d : Distribution) (stage : ℕ) (steps : List SeatStep) (lot cells : List ℕ) (places : List (Option ℕ)) (items : List Item) → AreTold e stage steps lot cells places items → (k : ℕ) (i : Item) (at : Option ℕ) → k < length items →
      at ≡ slice_index_or places k None → entry_by e d cells at (get_or items k i) ≡ entry_of e stage d steps lot items (get_or items k i)
  entry_told d stage steps lot cells places items told k i at less is =
      let one = get_or items k i in
      ap (λ n. record (entry_of e stage d steps lot items one) { seats = n; place = at }) (told.seats k i less)
      ∙ ap (λ o. record (entry_of e stage d steps lot items one) { place = o }) (is ∙ told.drawn k i less)
