-- Scopes and entries of each form: their places and their cursors.
use Rattle.std.proofs.Common.{map, ◌≡◌, ◌≢◌, ℕ, zero, suc, ◌+◌, ◌*◌, ◌/◌, ◌%◌, ◌<◌, ◌≤◌, filter, Some, refl, sym, ap, subst, ◌∙◌, arith}
use Rattle.std.specs.Prelude.{flat_map, slice_get}
use Rattle.std.specs.List.{AllByRecursion as Every, range_with_len}
use Rattle.std.specs.Option.{option_map}
use Rattle.std.proofs.lemmas.Nat.{div-mul-add}
use Rattle.std.proofs.Math.Nat.{add-mul-mod_self_right, mod-eq_of_lt, mul-le-mul_right}
use Rattle.std.proofs.lemmas.Option.{slice_get_within}
use Rattle.sl_base_terms.specs.declared.shape.Shape.TheVariants as shape
use Rattle.sl_law_meaning.specs.declared.fault.Scope.{Scope}
use Rattle.sl_law_meaning.specs.declared.fault.Scope.TheVariants as scope
use Rattle.sl_law_meaning.specs.declared.fault.Item.{Item}
use Rattle.sl_law_meaning.specs.declared.fault.Item.TheVariants as item
use Rattle.sl_law_meaning.specs.returns.Election.{Election, lands_of, parties_of, has_list}
use Rattle.sl_law_meaning.specs.returns.Facts.{lands, parties}
use Rattle.sl_law_meaning.specs.meaning.Scopes.{place, entries_of, lists_in_land, lists_of_party, Group}
use Rattle.sl_code_instructions.specs.declared.operand.Entries.TheVariants as entries
use Rattle.sl_code_semantics.specs.State.{State}
use Rattle.sl_code_semantics.specs.Places.{both}
use Rattle.sl_law_meaning.proofs.meaning.DistinctLists.{every_map, every_filter, every_pieces, every_weaker}
use Rattle.sl_compile_pieces.specs.scopes.Forms.{AllParties, AllLands, AllLists, ListsOfParty, ListsInLand, groups_of, OnScope, OnItem}
use Rattle.sl_compile_pieces.specs.scopes.Scopes.{IsEntry, IsScope, ScopesHold, ScopesApart}
use Rattle.sl_compile_pieces.proofs.scopes.Rising.{Rises, between, rises_range, rises_filter, rises_map, rises_append, increasing}
use Rattle.sl_compile_pieces.proofs.scopes.Forms.{only_one, made_of, all_group, party_group, land_group}
use Rattle.sl_law_meaning.proofs.meaning.AwardedEntries.{every_at}
use Rattle.sl_compile_pieces.proofs.arenas.Pieces.{number_is}

-- ---- the place of a pair

module _ (e : Election) (land party : ℕ) (less : party < parties_of e) where
  pub land_again : (land * parties_of e + party) / parties_of e ≡ land
  land_again = div-mul-add land (parties_of e) party less

  pub party_again : (land * parties_of e + party) % parties_of e ≡ party
  party_again =
      let turned : land * parties_of e + party ≡ party + land * parties_of e = omega arith in
      ap (λ n. n % parties_of e) turned ∙ add-mul-mod_self_right party land (parties_of e) ∙ mod-eq_of_lt less

  pub above_land : (k : ℕ) → land + 1 ≤ k → land * parties_of e + party < k * parties_of e
  above_land k next =
      omega (arith, mul-le-mul_right (parties_of e) next, less)

-- ---- entries

pub party_entry : (e : Election) (p : ℕ) → p < parties_of e → IsEntry e entries.Party shape.Party scope.All (item.Party p)
party_entry e p less = record { within = less; item = refl; set = λ s. refl; index = λ s on. on; cell = λ s on. on; scope = λ s on. tt }

pub land_entry : (e : Election) (l : ℕ) → l < lands_of e → IsEntry e entries.Land shape.Land scope.All (item.Land l)
land_entry e l less = record { within = less; item = refl; set = λ s. refl; index = λ s on. on; cell = λ s on. on; scope = λ s on. tt }

pub list_entry : (e : Election) (on : Scope) (l p : ℕ) → l < lands_of e → p < parties_of e → ((s : State) → OnItem (item.List l p) s → OnScope on s) → IsEntry e entries.List shape.List on (item.List l p)
list_entry e on l p in_lands in_parties at =
    let q : ℕ = l * parties_of e + p in
    let number : ℕ → ℕ → ℕ = λ land party. land * parties_of e + party in
    let there : (s : State) → OnItem (item.List l p) s → both s.land s.party number ≡ Some q =
    λ s h. ap (λ o. both o s.party number) h.0 ∙ ap (λ o. both (Some l) o number) h.1 in
    record {
      within = above_land e l p in_parties (lands_of e) (omega (arith, in_lands));
      item = ap (λ n. item.List n (q % parties_of e)) (land_again e l p in_parties) ∙ ap (item.List l) (party_again e l p in_parties);
      set = λ s. (ap Some (land_again e l p in_parties), ap Some (party_again e l p in_parties));
      index = there;
      cell = there;
      scope = at;
    }

-- what holds of each number below another holds of those that pass a test
each_below : (P : ℕ → Type 0) (n : ℕ) → ((k : ℕ) → k < n → P k) → Every P (range_with_len 0 n)
each_below P n each = every_weaker (λ k. (0 ≤ k) × (k < n)) P (λ k h. each k h.1) (range_with_len 0 n) (between 0 n 0 n (omega arith) (omega arith))

module _ (e : Election) where
  in_land_each : (P : Item → Type 0) (l : ℕ) → ((p : ℕ) → p < parties_of e → P (item.List l p)) → Every P (lists_in_land e l)
  in_land_each P l each =
      every_map P (item.List l) (filter (has_list e l) (parties e)) (every_filter (λ p. P (item.List l p)) (has_list e l) (parties e) (each_below (λ p. P (item.List l p)) (parties_of e) each))

  of_party_each : (P : Item → Type 0) (p : ℕ) → ((l : ℕ) → l < lands_of e → P (item.List l p)) → Every P (lists_of_party e p)
  of_party_each P p each =
      every_map P (λ l. item.List l p) (filter (λ l. has_list e l p) (lands e))
      (every_filter (λ l. P (item.List l p)) (λ l. has_list e l p) (lands e) (each_below (λ l. P (item.List l p)) (lands_of e) each))

  -- ---- places rise

  in_land_rises : (l : ℕ) → Rises (place e) (lists_in_land e l)
  in_land_rises l =
      rises_map (λ k. k) (place e) (item.List l) (λ p r less. omega (arith, less)) (filter (has_list e l) (parties e)) (rises_filter (λ k. k) (has_list e l) (parties e) (rises_range 0 (parties_of e)))

  of_party_rises : (p : ℕ) → p < parties_of e → Rises (place e) (lists_of_party e p)
  of_party_rises p in_parties =
      rises_map (λ k. k) (place e) (λ l. item.List l p)
      (λ l k less. let first : l * parties_of e + p < k * parties_of e = above_land e l p in_parties k (omega (arith, less)) in omega (arith, first))
      (filter (λ l. has_list e l p) (lands e)) (rises_filter (λ k. k) (λ l. has_list e l p) (lands e) (rises_range 0 (lands_of e)))

  lists_above : (a n : ℕ) → Every (λ i. a * parties_of e ≤ place e i) (flat_map (lists_in_land e) (range_with_len a n))
  lists_above a n =
      every_pieces (λ i. a * parties_of e ≤ place e i) (lists_in_land e) (range_with_len a n)
      (every_weaker (λ k. (a ≤ k) × (k < a + n)) (λ l. Every (λ i. a * parties_of e ≤ place e i) (lists_in_land e l))
      (λ l h. in_land_each (λ i. a * parties_of e ≤ place e i) l (λ p less. let low : a * parties_of e ≤ l * parties_of e = mul-le-mul_right (parties_of e) h.0 in omega (arith, low)))
      (range_with_len a n) (between a n a (a + n) (omega arith) (omega arith)))

  lists_rise : (a n : ℕ) → Rises (place e) (flat_map (lists_in_land e) (range_with_len a n))
  lists_rise a zero = tt
  lists_rise a (suc n) =
      rises_append (place e) ((a + 1) * parties_of e) (lists_in_land e a) (flat_map (lists_in_land e) (range_with_len (a + 1) n))
      (in_land_each (λ i. place e i < (a + 1) * parties_of e) a (λ p less. above_land e a p less (a + 1) (omega arith)))
      (lists_above (a + 1) n) (in_land_rises a) (lists_rise (a + 1) n)

-- ---- scopes

module _ (e : Election) where
  all_parties_scope : IsScope e AllParties (all_group e AllParties)
  all_parties_scope = record {
    within = omega arith;
    kind = λ s on. refl;
    amount = λ s on. refl;
    increasing = increasing (place e) (entries_of e shape.Party) (rises_map (λ k. k) (place e) item.Party (λ p r less. less) (parties e) (rises_range 0 (parties_of e)));
    entry = λ j i at. every_at (IsEntry e entries.Party shape.Party scope.All) (entries_of e shape.Party) j i
        (every_map (IsEntry e entries.Party shape.Party scope.All) item.Party (parties e) (each_below (λ p. IsEntry e entries.Party shape.Party scope.All (item.Party p)) (parties_of e) (party_entry e))) at;
  }

  all_lands_scope : IsScope e AllLands (all_group e AllLands)
  all_lands_scope = record {
    within = omega arith;
    kind = λ s on. refl;
    amount = λ s on. refl;
    increasing = increasing (place e) (entries_of e shape.Land) (rises_map (λ k. k) (place e) item.Land (λ l k less. less) (lands e) (rises_range 0 (lands_of e)));
    entry = λ j i at. every_at (IsEntry e entries.Land shape.Land scope.All) (entries_of e shape.Land) j i
        (every_map (IsEntry e entries.Land shape.Land scope.All) item.Land (lands e) (each_below (λ l. IsEntry e entries.Land shape.Land scope.All (item.Land l)) (lands_of e) (land_entry e))) at;
  }

  all_lists_scope : IsScope e AllLists (all_group e AllLists)
  all_lists_scope =
      let P : Item → Type 0 = IsEntry e entries.List shape.List scope.All in
      record {
        within = omega arith;
        kind = λ s on. refl;
        amount = λ s on. refl;
        increasing = increasing (place e) (entries_of e shape.List) (lists_rise e 0 (lands_of e));
        entry = λ j i at. every_at P (entries_of e shape.List) j i
            (every_pieces P (lists_in_land e) (lands e)
            (each_below (λ l. Every P (lists_in_land e l)) (lands_of e) (λ l in_lands. in_land_each e P l (λ p in_parties. list_entry e scope.All l p in_lands in_parties (λ s on. tt))))) at;
      }

  party_scope : (p : ℕ) → p < parties_of e → IsScope e ListsOfParty (party_group e p)
  party_scope p in_parties =
      let P : Item → Type 0 = IsEntry e entries.List shape.List (scope.Party p) in
      record {
        within = in_parties;
        kind = λ s on. ap (λ o. option_map scope.Party o) on;
        amount = λ s on. on;
        increasing = increasing (place e) (lists_of_party e p) (of_party_rises e p in_parties);
        entry = λ j i at. every_at P (lists_of_party e p) j i (of_party_each e P p (λ l in_lands. list_entry e (scope.Party p) l p in_lands in_parties (λ s on. on.1))) at;
      }

  land_scope : (l : ℕ) → l < lands_of e → IsScope e ListsInLand (land_group e l)
  land_scope l in_lands =
      let P : Item → Type 0 = IsEntry e entries.List shape.List (scope.Land l) in
      record {
        within = in_lands;
        kind = λ s on. ap (λ o. option_map scope.Land o) on;
        amount = λ s on. on;
        increasing = increasing (place e) (lists_in_land e l) (in_land_rises e l);
        entry = λ j i at. every_at P (lists_in_land e l) j i (in_land_each e P l (λ p in_parties. list_entry e (scope.Land l) l p in_lands in_parties (λ s on. on.0))) at;
      }

-- the scopes of parties, and of Länder, by their numbers
group_at : (of : ℕ → Group) (n m : ℕ) (g : Group) → slice_get (map of (range_with_len 0 n)) m ≡ Some g → (g ≡ of m) × (m < n)
group_at of n m g at =
    let made : (k : ℕ) × (slice_get (range_with_len 0 n) m ≡ Some k) × (g ≡ of k) = made_of of (range_with_len 0 n) m g at in
    let there : (made.0 ≡ m) × (m < n) = number_is n m made.0 made.1 in
    (made.2 ∙ ap of there.0, there.1)

pub scopes_hold : ScopesHold
scopes_hold e AllParties m g at = subst (IsScope e AllParties) (sym (only_one (all_group e AllParties) g m at)) (all_parties_scope e)
scopes_hold e AllLands m g at = subst (IsScope e AllLands) (sym (only_one (all_group e AllLands) g m at)) (all_lands_scope e)
scopes_hold e AllLists m g at = subst (IsScope e AllLists) (sym (only_one (all_group e AllLists) g m at)) (all_lists_scope e)
scopes_hold e ListsOfParty m g at =
    let there : (g ≡ party_group e m) × (m < parties_of e) = group_at (party_group e) (parties_of e) m g at in
    subst (IsScope e ListsOfParty) (sym there.0) (party_scope e m there.1)
scopes_hold e ListsInLand m g at =
    let there : (g ≡ land_group e m) × (m < lands_of e) = group_at (land_group e) (lands_of e) m g at in
    subst (IsScope e ListsInLand) (sym there.0) (land_scope e m there.1)

-- ---- scopes apart

-- the place of each entry of a scope tells the scope's number
apart_by : (e : Election) (of : ℕ → Group) (count : ℕ) (number : ℕ → ℕ) → ((k : ℕ) → k < count → Every (λ y. number (place e y) ≡ k) (of k).entries) → (m n : ℕ) (g h : Group) →
    slice_get (map of (range_with_len 0 count)) m ≡ Some g → slice_get (map of (range_with_len 0 count)) n ≡ Some h → m ≢ n → (j k : ℕ) (i x : Item) →
    slice_get g.entries j ≡ Some i → slice_get h.entries k ≡ Some x → place e i ≢ place e x
apart_by e of count number each m n g h at there differ j k i x first second same =
    let one : (g ≡ of m) × (m < count) = group_at of count m g at in
    let other : (h ≡ of n) × (n < count) = group_at of count n h there in
    let is : number (place e i) ≡ m = every_at (λ y. number (place e y) ≡ m) (of m).entries j i (each m one.1) (subst (λ (y : Group). slice_get y.entries j ≡ Some i) one.0 first) in
    let are : number (place e x) ≡ n = every_at (λ y. number (place e y) ≡ n) (of n).entries k x (each n other.1) (subst (λ (y : Group). slice_get y.entries k ≡ Some x) other.0 second) in
    differ (sym is ∙ ap number same ∙ are)

pub scopes_apart : ScopesApart
scopes_apart e ListsOfParty m n g h at there differ j k i x first second same =
    apart_by e (party_group e) (parties_of e) (λ q. q % parties_of e) (λ p less. of_party_each e (λ y. place e y % parties_of e ≡ p) p (λ l in_lands. party_again e l p less))
    m n g h at there differ j k i x first second same
scopes_apart e ListsInLand m n g h at there differ j k i x first second same =
    apart_by e (land_group e) (lands_of e) (λ q. q / parties_of e) (λ l in_lands. in_land_each e (λ y. place e y / parties_of e ≡ l) l (λ p less. land_again e l p less))
    m n g h at there differ j k i x first second same
scopes_apart e f m n g h at there differ j k i x first second same =
    differ (omega (arith, slice_get_within (groups_of e f) m g at, slice_get_within (groups_of e f) n h there))
