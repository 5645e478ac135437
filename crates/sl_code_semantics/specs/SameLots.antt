-- The lot of a stage is one lot for the machine, which counts entries by their places in a column, and for a rulebook's meaning, which
-- counts them by their numbers among the entries of a scope (docs/machine.md, section 3).
use Rattle.std.specs.Prelude.{◌≡◌, ◌<◌, ◌↔◌, ℕ, List, length, map, filter_map, slice_index, All, Contains, Some, IsTrue}
use Rattle.std.specs.List.Sorted.{IsStrictlyIncreasing}
use Rattle.sl_base_quotients.specs.declared.entry.Entry.{Entry}
use Rattle.sl_base_rankings.specs.Lot.{place_in_lot}
use Rattle.sl_base_rankings.specs.Lot as machine
use Rattle.sl_base_rankings.specs.Peers.{peers, is_covered}
use Rattle.sl_base_terms.specs.declared.shape.Shape.TheVariants as shape
use Rattle.sl_law_meaning.specs.declared.fault.Item.{Item}
use Rattle.sl_law_meaning.specs.returns.Election.{Election, IsElection}
use Rattle.sl_law_meaning.specs.meaning.Scopes.{place}
use Rattle.sl_law_meaning.specs.meaning.Lots.{lots_named, given_winner, lot_among, stage_lot}
use Rattle.sl_law_meaning.specs.methods.Ties.{Distinct, NamesAll}
use Rattle.sl_law_meaning.specs.methods.Ties as meaning
use Rattle.sl_law_meaning.specs.laws.Awards.{DrawsNext}
use Rattle.sl_code_instructions.specs.declared.operand.Entries.{Entries}
use Rattle.sl_code_instructions.specs.declared.operand.Entries.TheVariants as entries
use Rattle.sl_code_semantics.specs.Places.{item_of}
use Rattle.sl_code_semantics.specs.Drawn.{lot_of}

-- the meaning's lot of that name among such entries; among winners it is `seats_lot` for the name `seats`
abbrev pub lot_meant : Election → List ℕ → Entries → List Item → List ℕ
lot_meant e name entries.Party items = stage_lot e name shape.Party items
lot_meant e name entries.Land items = stage_lot e name shape.Land items
lot_meant e name entries.List items = stage_lot e name shape.List items
lot_meant e name entries.Win items = lot_among items (filter_map (given_winner e) (lots_named name e))

-- the items are entries of a table of that kind, in the order of their places
pub record AreEntries (e : Election) (k : Entries) (items : List Item) : Type 0 where
  pub items_of : All (λ i. item_of e k (place e i) ≡ i) items
  pub increasing : IsStrictlyIncreasing (map (place e) items)

-- a lot by places, and one by numbers among entries that have these places: they name the same of these entries, in the same order
pub record SameLot (lot meant places : List ℕ) : Type 0 where
  pub named : (j : ℕ) → j < length places → Contains meant j ↔ Contains lot (slice_index places j)
  pub within : (j : ℕ) → Contains meant j → j < length places
  pub distinct : Distinct meant
  pub before : (j k : ℕ) → j < length places → k < length places →
      place_in_lot lot (slice_index places j) < place_in_lot lot (slice_index places k) → place_in_lot meant j < place_in_lot meant k

-- the two lots of a name are such ones
abbrev pub SameLots : Type 0
SameLots = (e : Election) → IsElection e → (name : List ℕ) (k : Entries) (items : List Item) → AreEntries e k items →
    SameLot (lot_of e k name) (lot_meant e name k items) (map (place e) items)

-- ---- tables

-- the peers of a table are at the places of the entries of which P holds
pub record PeersAre (places : List ℕ) (P : ℕ → Type 0) (contents : List Entry) : Type 0 where
  pub each : (x : Entry) → Contains (peers contents) x → (j : ℕ) × P j × (x.index ≡ slice_index places j)
  pub all : (j : ℕ) → P j → (x : Entry) × Contains (peers contents) x × (x.index ≡ slice_index places j)
  pub within : (j : ℕ) → P j → j < length places

-- a table is covered exactly if the meaning's lot names all its peers
abbrev pub SameCovers : Type 0
SameCovers = (lot meant places tied : List ℕ) (contents : List Entry) → SameLot lot meant places → PeersAre places (Contains tied) contents →
    IsTrue (is_covered lot contents) ↔ NamesAll meant tied

-- of the entries that are tied the meaning's lot has drawn k, and the others are the peers: the table's lot draws the one that the
-- meaning's draws next
abbrev pub SameDraws : Type 0
SameDraws = (lot meant places tied : List ℕ) (k : ℕ) (contents : List Entry) → SameLot lot meant places → IsStrictlyIncreasing places → NamesAll meant tied →
    (next : DrawsNext meant tied k) → PeersAre places (λ j. Contains tied j × ¬ Contains (meaning.drawn meant k tied) j) contents →
    (x : Entry) × (machine.drawn lot contents ≡ Some x) × (x.index ≡ slice_index places next.entry)
