-- The plans for entries and for scopes, form by form.
use Rattle.std.proofs.Common.{◌≡◌, ℕ, zero, suc, ◌+◌, List, [], ◌∷◌, length, map, if◌then◌else◌, Some, refl, sym, subst, arith}
use Rattle.std.specs.Prelude.{flat_map, slice_get}
use Rattle.std.proofs.lemmas.Option.{none-some, same_Some}
use Rattle.sl_base_terms.specs.declared.shape.Shape.TheVariants as shape
use Rattle.sl_law_meaning.specs.declared.fault.Scope.TheVariants as scope
use Rattle.sl_law_meaning.specs.declared.fault.Item.{Item}
use Rattle.sl_law_meaning.specs.declared.fault.Item.TheVariants as item
use Rattle.sl_law_meaning.specs.returns.Election.{Election, has_list}
use Rattle.sl_law_meaning.specs.returns.Facts.{lands, parties}
use Rattle.sl_law_meaning.specs.meaning.Scopes.{entries_of, lists_in_land, lists_of_party, Group}
use Rattle.sl_code_instructions.specs.Codes.{CountingCode}
use Rattle.sl_code_semantics.specs.State.{State, End}
use Rattle.sl_compile_plans.specs.declared.plan.Cursor.TheVariants as cursor
use Rattle.sl_compile_plans.specs.Trees.{Tree}
use Rattle.sl_compile_plans.specs.Achieves.{Achieves}
use Rattle.sl_compile_plans.proofs.Rules.{achieves_so}
use Rattle.sl_compile_pieces.specs.scopes.Forms.{Form, AllParties, AllLands, AllLists, ListsOfParty, ListsInLand, votes_of, groups_of, on_list, scopes_plan, entries_plan, OnScope, OnItem}
use Rattle.sl_compile_pieces.specs.inner.scopes.Walks.{bare, Visits, EachEntry, EachScope}
use Rattle.sl_compile_pieces.proofs.scopes.Pieces.{stands_itself, passing_each}
use Rattle.sl_compile_pieces.proofs.scopes.Walking.{Walks, walk_one, walk_as, walk_each, walk_list, walk_singles}

-- ---- a scope is the only one, or that of a party or a Land

module _ {X : Type 0} where
  pub only_one : (x y : X) (m : ℕ) → slice_get (x ∷ []) m ≡ Some y → y ≡ x
  only_one x y zero at = sym (same_Some x y at)
  only_one x y (suc m) at = absurd (none-some y at)

  pub made_of : {Y : Type 0} (f : Y → X) (ys : List Y) (m : ℕ) (x : X) → slice_get (map f ys) m ≡ Some x → (y : Y) × (slice_get ys m ≡ Some y) × (x ≡ f y)
  made_of f [] m x at = absurd (none-some x at)
  made_of f (y ∷ ys) zero x at = (y, refl, sym (same_Some (f y) x at))
  made_of f (y ∷ ys) (suc m) x at = made_of f ys m x at

abbrev pub all_group : Election → Form → Group
all_group e f = record { scope = scope.All; amount_place = 0; entries = entries_of e (votes_of f) }

abbrev pub party_group : Election → ℕ → Group
party_group e party = record { scope = scope.Party party; amount_place = party; entries = lists_of_party e party }

abbrev pub land_group : Election → ℕ → Group
land_group e land = record { scope = scope.Land land; amount_place = land; entries = lists_in_land e land }

-- ---- entries

module _ (c : CountingCode) (e : Election) (body : Tree) (Inv : ℕ → State → Type 0) (E : End → Type 0) where
  -- the plan for entries takes those of the scope
  abbrev Takes : Form → Group → Type 0
  Takes f g = Visits c e body g.entries OnItem Inv E → Walks c e g.entries Inv E (entries_plan f body) (OnScope g.scope) g.entries

  all_parties : Takes AllParties (all_group e AllParties)
  all_parties h = walk_singles c e (entries_of e shape.Party) Inv E cursor.Party item.Party OnItem body (λ o s. refl) (λ p s. refl) (λ p s at. at) h

  all_lands : Takes AllLands (all_group e AllLands)
  all_lands h = walk_singles c e (entries_of e shape.Land) Inv E cursor.Land item.Land OnItem body (λ o s. refl) (λ l s. refl) (λ l s at. at) h

  -- the lists in a Land, where the Land's cursor stands at it
  in_land : (all : List Item) (l : ℕ) → Visits c e body all OnItem Inv E → Walks c e all Inv E (entries_plan ListsInLand body) (OnScope (scope.Land l)) (lists_in_land e l)
  in_land all l h =
      let piece : ℕ → List Item = λ p. if has_list e l p then item.List l p ∷ [] else [] in
      walk_as c e all Inv E (entries_plan ListsInLand body) (OnScope (scope.Land l)) (flat_map piece (parties e)) (lists_in_land e l) (sym (passing_each (item.List l) (has_list e l) (parties e)))
      (walk_each c e all Inv E cursor.Party (OnScope (scope.Land l)) (λ p. OnItem (item.List l p)) piece (on_list body)
      (record { hidden = λ o s. refl; begins = λ p s on. (on, refl); stays = λ p s at. at.1; leaves = λ p s at. at.0; ends = λ s on. on })
      (λ p less. walk_list c e all Inv E body l p h))

  of_party : (all : List Item) (p : ℕ) → Visits c e body all OnItem Inv E → Walks c e all Inv E (entries_plan ListsOfParty body) (OnScope (scope.Party p)) (lists_of_party e p)
  of_party all p h =
      let piece : ℕ → List Item = λ l. if has_list e l p then item.List l p ∷ [] else [] in
      walk_as c e all Inv E (entries_plan ListsOfParty body) (OnScope (scope.Party p)) (flat_map piece (lands e)) (lists_of_party e p)
      (sym (passing_each (λ l. item.List l p) (λ l. has_list e l p) (lands e)))
      (walk_each c e all Inv E cursor.Land (OnScope (scope.Party p)) (λ l. OnItem (item.List l p)) piece (on_list body)
      (record { hidden = λ o s. refl; begins = λ l s on. (refl, on); stays = λ l s at. at.0; leaves = λ l s at. at.1; ends = λ s on. on })
      (λ l less. walk_list c e all Inv E body l p h))

  all_of_lists : Takes AllLists (all_group e AllLists)
  all_of_lists h =
      let all : List Item = entries_of e shape.List in
      walk_each c e all Inv E cursor.Land (OnScope scope.All) (λ l. OnScope (scope.Land l)) (lists_in_land e) (entries_plan ListsInLand body)
      (record { hidden = λ o s. refl; begins = λ l s on. refl; stays = λ l s at. at; leaves = λ l s at. tt; ends = λ s on. tt })
      (λ l less. in_land all l h)

  takes : (f : Form) (m : ℕ) (g : Group) → slice_get (groups_of e f) m ≡ Some g → Takes f g
  takes AllParties m g at = subst (Takes AllParties) (sym (only_one (all_group e AllParties) g m at)) all_parties
  takes AllLands m g at = subst (Takes AllLands) (sym (only_one (all_group e AllLands) g m at)) all_lands
  takes AllLists m g at = subst (Takes AllLists) (sym (only_one (all_group e AllLists) g m at)) all_of_lists
  takes ListsOfParty m g at =
      let made : (p : ℕ) × (slice_get (parties e) m ≡ Some p) × (g ≡ party_group e p) = made_of (party_group e) (parties e) m g at in
      subst (Takes ListsOfParty) (sym made.2) (of_party (lists_of_party e made.0) made.0)
  takes ListsInLand m g at =
      let made : (l : ℕ) × (slice_get (lands e) m ≡ Some l) × (g ≡ land_group e l) = made_of (land_group e) (lands e) m g at in
      subst (Takes ListsInLand) (sym made.2) (in_land (lists_in_land e made.0) made.0)

pub each_entry : EachEntry
each_entry c e f m g body Inv E s at h on inv =
    let all : 0 + length g.entries ≡ length g.entries = omega arith in
    subst (λ (n : ℕ). Achieves c e (entries_plan f body) s (λ t. OnScope g.scope t × Inv n (bare t)) E) all ((takes c e body Inv E f m g at h).walk 0 s (stands_itself g.entries) on inv)

-- ---- scopes

module _ (c : CountingCode) (e : Election) (body : Tree) (Inv : ℕ → State → Type 0) (E : End → Type 0) where
  abbrev OnGroup : Group → State → Type 0
  OnGroup g = OnScope g.scope

  abbrev TakesAll : Form → Type 0
  TakesAll f = Visits c e body (groups_of e f) OnGroup Inv E → Walks c e (groups_of e f) Inv E (scopes_plan f body) (OnScope scope.All) (groups_of e f)

  takes_all : (f : Form) → TakesAll f
  takes_all AllParties h = walk_one c e (groups_of e AllParties) Inv E body OnGroup (all_group e AllParties) h
  takes_all AllLands h = walk_one c e (groups_of e AllLands) Inv E body OnGroup (all_group e AllLands) h
  takes_all AllLists h = walk_one c e (groups_of e AllLists) Inv E body OnGroup (all_group e AllLists) h
  takes_all ListsOfParty h = walk_singles c e (groups_of e ListsOfParty) Inv E cursor.Party (party_group e) OnGroup body (λ o s. refl) (λ p s. refl) (λ p s at. at) h
  takes_all ListsInLand h = walk_singles c e (groups_of e ListsInLand) Inv E cursor.Land (land_group e) OnGroup body (λ o s. refl) (λ l s. refl) (λ l s at. at) h

pub each_scope : EachScope
each_scope c e f body Inv E s h inv =
    let all : 0 + length (groups_of e f) ≡ length (groups_of e f) = omega arith in
    achieves_so ((takes_all c e body Inv E f h).walk 0 s (stands_itself (groups_of e f)) tt inv) (λ t r. subst (λ (n : ℕ). Inv n (bare t)) all r.1)
