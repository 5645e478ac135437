-- The column that the awards of scopes make: the cells of the entries hold their seats, and all other cells 0.
use Rattle.std.proofs.Common.{◌≡◌, ◌≢◌, ℕ, ◌+◌, ◌*◌, ◌/◌, ◌%◌, ◌<◌, true, false, List, [], ◌∷◌, ◌++◌, length, get_or, nat_eq, Some, slice_get, slice_index, refl, sym, ap, subst, ◌∙◌, inl, inr, arith, div-add-mod', eqb-true}
use Rattle.std.specs.Prelude.{zip, flat_map}
use Rattle.std.specs.List.{AllByRecursion as Every, AllZip}
use Rattle.std.proofs.lemmas.Bool.{and_parts, cases_eq, false_from_ne_true}
use Rattle.std.proofs.lemmas.List.FromFn.{length-map-range_with_len}
use Rattle.std.proofs.lemmas.Option.{none-some, same_Some, slice_get_within, slice_get-get_or}
use Rattle.sl_base_terms.specs.declared.shape.Shape.TheVariants as shape
use Rattle.sl_law_meaning.specs.declared.fault.Item.{Item}
use Rattle.sl_law_meaning.specs.declared.fault.Item.TheVariants as item
use Rattle.sl_law_meaning.specs.returns.Election.{Election, lands_of, parties_of}
use Rattle.sl_law_meaning.specs.meaning.Scopes.{Group, same_item, place, told_of, pair_column}
use Rattle.sl_law_meaning.specs.meaning.Splits.{Award, Seats, awarded}
use Rattle.sl_law_meaning.proofs.meaning.AwardedEntries.{told_entry, scope_entries_differ, party_cell, land_cell, pair_cell}
use Rattle.sl_law_meaning.proofs.meaning.DistinctLists.{every_weaker, every_pieces, every_zipped}
use Rattle.sl_law_meaning.proofs.meaning.ListPlaces.{length_by_list}
use Rattle.sl_law_meaning.proofs.meaning.TypedSplits.{told_none}
use Rattle.sl_code_instructions.specs.declared.operand.Entries.{Entries}
use Rattle.sl_code_instructions.specs.declared.operand.Entries.TheVariants as entries
use Rattle.sl_code_semantics.specs.Places.{cells_of, item_of}
use Rattle.sl_code_semantics.proofs.soundness.KeptTables.{list_parts}
use Rattle.sl_compile_pieces.specs.scopes.Forms.{Form, AllParties, AllLands, amounts_of, votes_of, table_of, groups_of}
use Rattle.sl_compile_pieces.specs.scopes.Scopes.{IsEntry}
use Rattle.sl_compile_pieces.proofs.scopes.Scopes.{scopes_hold, scopes_apart}
use Rattle.sl_compile_pieces.specs.columns.Columns.{HoldsColumn}
use Rattle.sl_compile_pieces.specs.seats.Slots.{HasCells}
use Rattle.sl_compile_pieces.proofs.nodes.JoiningLists.{Somewhere, somewhere_or_not, every_of_places, pushed_there}

-- ---- items by their numbers

module _ (e : Election) where
  same_number : (k : Entries) (q r : ℕ) → same_item (item_of e k q) (item_of e k r) ≡ true → q ≡ r
  same_number entries.List q r same =
      let n : ℕ = parties_of e in
      let parts = and_parts (nat_eq (q / n) (r / n)) (nat_eq (q % n) (r % n)) same in
      sym (div-add-mod' q n) ∙ ap (λ l. l * n + q % n) (eqb-true (q / n) (r / n) parts.0) ∙ ap (λ p. r / n * n + p) (eqb-true (q % n) (r % n) parts.1) ∙ div-add-mod' r n
  same_number _ q r same = eqb-true q r same

  -- an item that stands elsewhere is another
  other_item : (k : Entries) (q : ℕ) (i : Item) → item_of e k (place e i) ≡ i → place e i ≢ q → same_item (item_of e k q) i ≡ false
  other_item k q i is other =
      false_from_ne_true (same_item (item_of e k q) i)
      (λ same. other (sym (same_number k q (place e i) (ap (same_item (item_of e k q)) is ∙ same))))

-- ---- what the column of pairs holds at a place

module _ (e : Election) (pairs : List (Item × ℕ)) where
  list_cell : (q : ℕ) → q < lands_of e * parties_of e → get_or (pair_column e shape.List pairs) q 0 ≡ told_of pairs (item_of e entries.List q)
  list_cell q within =
      let n : ℕ = parties_of e in
      let parts : (q / n < lands_of e) × (q % n < n) = list_parts q (lands_of e) n within in
      ap (λ r. get_or (pair_column e shape.List pairs) r 0) (sym (div-add-mod' q n)) ∙ pair_cell e pairs (q / n) (q % n) parts.0 parts.1

  told_cell : (f : Form) (q : ℕ) → q < cells_of e (votes_of f) → get_or (pair_column e (votes_of f) pairs) q 0 ≡ told_of pairs (item_of e (table_of f) q)
  told_cell AllParties q within = party_cell e pairs q within
  told_cell AllLands q within = land_cell e pairs q within
  told_cell _ q within = list_cell q within

  wide : (f : Form) → length (pair_column e (votes_of f) pairs) ≡ cells_of e (votes_of f)
  wide AllParties = length-map-range_with_len (λ party. told_of pairs (item.Party party)) 0 (parties_of e)
  wide AllLands = length-map-range_with_len (λ land. told_of pairs (item.Land land)) 0 (lands_of e)
  wide _ = length_by_list e (λ land party. told_of pairs (item.List land party))

-- ---- awards in a column

module _ (e : Election) (f : Form) where
  -- an entry of a scope stands there
  abbrev EntryAt : ℕ → Group → Type 0
  EntryAt q g = Somewhere (λ i. place e i ≡ q) g.entries

  -- the first scopes have these awards, whose seats are in the cells of their entries; a cell that is no entry's is 0
  pub record HoldsAwards (awards : List Award) (column : ℕ → ℕ) : Type 0 where
    pub at : (m j : ℕ) (g : Group) (a : Award) (i : Item) → slice_get (groups_of e f) m ≡ Some g → slice_get awards m ≡ Some a → slice_get g.entries j ≡ Some i →
        column (place e i) ≡ slice_index (awarded a) j
    pub nowhere : (q : ℕ) → (Somewhere (EntryAt q) (groups_of e f) → ⊥) → column q ≡ 0

  pub no_awards : HoldsAwards [] (λ q. 0)
  no_awards = record { at = λ m j g a i group award entry. absurd (none-some a award); nowhere = λ q none. refl }

  pub one_award_more : (awards : List Award) (g : Group) (seats : List ℕ) (before after : ℕ → ℕ) → slice_get (groups_of e f) (length awards) ≡ Some g → HoldsAwards awards before →
      HasCells e g.entries after seats → ((q : ℕ) → ((j : ℕ) (i : Item) → slice_get g.entries j ≡ Some i → place e i ≢ q) → after q ≡ before q) →
      HoldsAwards (awards ++ Seats seats ∷ []) after
  one_award_more awards g seats before after here h cells elsewhere = record { at = at_entry; nowhere = none_there }
    where
      at_entry : (m j : ℕ) (o : Group) (a : Award) (i : Item) → slice_get (groups_of e f) m ≡ Some o → slice_get (awards ++ Seats seats ∷ []) m ≡ Some a → slice_get o.entries j ≡ Some i →
          after (place e i) ≡ slice_index (awarded a) j
      at_entry m j o a i group award entry =
          elim (pushed_there awards (Seats seats) m a award) [
            | inl earlier ↦
                let less : m < length awards = slice_get_within awards m a earlier in
                elsewhere (place e i) (λ k y there. scopes_apart e f (length awards) m g o here group (λ same. omega (arith, same, less)) k j y i there entry)
                ∙ h.at m j o a i group earlier entry
            | inr last ↦
                let same : g ≡ o = same_Some g o (sym here ∙ ap (slice_get (groups_of e f)) (sym last.0) ∙ group) in
                cells.at j i (subst (λ (y : Group). slice_get y.entries j ≡ Some i) (sym same) entry) ∙ ap (λ y. slice_index (awarded y) j) last.1
          ]

      none_there : (q : ℕ) → (Somewhere (EntryAt q) (groups_of e f) → ⊥) → after q ≡ 0
      none_there q none =
          elsewhere q (λ j i there same. none (record { number = length awards; element = g; there = here; holds = record { number = j; element = i; there = there; holds = same } }))
          ∙ h.nowhere q none

  -- what the awards tell of the entries
  abbrev pub pairs_of : List Award → List (Item × ℕ)
  pairs_of awards = flat_map (λ x. zip x.0.entries (awarded x.1)) (zip (groups_of e f) awards)

  abbrev AreLong : List Award → Type 0
  AreLong awards = AllZip (λ g a. length (awarded a) ≡ length g.entries) (groups_of e f) awards

  entry_of : (m j : ℕ) (g : Group) (i : Item) → slice_get (groups_of e f) m ≡ Some g → slice_get g.entries j ≡ Some i → item_of e (table_of f) (place e i) ≡ i
  entry_of m j g i group entry = let is : IsEntry e (table_of f) (votes_of f) g.scope i = (scopes_hold e f m g group).entry j i entry in is.item

  -- nothing is recorded of what is no entry
  told_nowhere : (awards : List Award) (q : ℕ) → (Somewhere (EntryAt q) (groups_of e f) → ⊥) → told_of (pairs_of awards) (item_of e (table_of f) q) ≡ 0
  told_nowhere awards q none =
      let y : Item = item_of e (table_of f) q in
      let Other : Item → Type 0 = λ i. same_item y i ≡ false in
      told_none (pairs_of awards) y
      (every_pieces (λ p. Other p.0) (λ x. zip x.0.entries (awarded x.1)) (zip (groups_of e f) awards)
      (every_weaker (λ x. Every Other x.0.entries) (λ x. Every (λ p. Other p.0) (zip x.0.entries (awarded x.1))) (λ x h. every_zipped Other x.0.entries (awarded x.1) h)
      (zip (groups_of e f) awards)
      (every_zipped (λ g. Every Other g.entries) (groups_of e f) awards
      (every_of_places (λ g. Every Other g.entries) (groups_of e f) (λ m g group.
      every_of_places Other g.entries (λ j i entry.
      other_item e (table_of f) q i (entry_of m j g i group entry)
      (λ same. none (record { number = m; element = g; there = group; holds = record { number = j; element = i; there = entry; holds = same } }))))))))

  -- an entry's number
  told_there : (awards : List Award) (column : ℕ → ℕ) (q : ℕ) → HoldsAwards awards column → length awards ≡ length (groups_of e f) → AreLong awards →
      Somewhere (EntryAt q) (groups_of e f) → column q ≡ told_of (pairs_of awards) (item_of e (table_of f) q)
  told_there awards column q h many long there =
      let m : ℕ = there.number in
      let j : ℕ = there.holds.number in
      let g : Group = there.element in
      let i : Item = there.holds.element in
      let a : Award = get_or awards m (Seats []) in
      let less : m < length awards = omega (arith, many, slice_get_within (groups_of e f) m g there.there) in
      let award : slice_get awards m ≡ Some a = slice_get-get_or awards m (Seats []) less in
      let is : item_of e (table_of f) q ≡ i = ap (item_of e (table_of f)) (sym there.holds.holds) ∙ entry_of m j g i there.there there.holds.there in
      let told : told_of (pairs_of awards) i ≡ slice_index (awarded a) j =
      told_entry (groups_of e f) awards (scope_entries_differ e (amounts_of f) (votes_of f)) long m j g a i there.there award there.holds.there in
      ap column (sym there.holds.holds) ∙ h.at m j g a i there.there award there.holds.there ∙ sym told ∙ ap (told_of (pairs_of awards)) (sym is)

  -- where all scopes have their awards, the column is that of the pairs
  pub awards_make : (awards : List Award) (column : ℕ → ℕ) → HoldsAwards awards column → length awards ≡ length (groups_of e f) → AreLong awards →
      HoldsColumn e (votes_of f) column (pair_column e (votes_of f) (pairs_of awards))
  awards_make awards column h many long = record { long = wide e (pairs_of awards) f; at = λ q within. cell q ∙ sym (told_cell e (pairs_of awards) f q within) }
    where
      cell : (q : ℕ) → column q ≡ told_of (pairs_of awards) (item_of e (table_of f) q)
      cell q =
          elim (somewhere_or_not (EntryAt q) (λ g. somewhere_or_not (λ i. place e i ≡ q) (λ i. cases_eq (place e i) q) g.entries) (groups_of e f)) [
            | inl there ↦ told_there awards column q h many long there
            | inr none ↦ h.nowhere q none ∙ sym (told_nowhere awards q none)
          ]
