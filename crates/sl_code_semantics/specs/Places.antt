-- What the cursors stand at: a cell of a column, an entry of the table, a scope (docs/machine.md, section 2).
use Rattle.std.specs.Prelude.{ℕ, ◌+◌, ◌*◌, ◌/◌, ◌%◌, Option, Some}
use Rattle.std.specs.Option.{option_map, option_and_then}
use Rattle.sl_base_terms.specs.declared.shape.Shape.{Shape}
use Rattle.sl_base_terms.specs.declared.shape.Shape.TheVariants as shape
use Rattle.sl_law_meaning.specs.declared.fault.Item.{Item}
use Rattle.sl_law_meaning.specs.declared.fault.Item.TheVariants as item
use Rattle.sl_law_meaning.specs.declared.fault.Scope.{Scope}
use Rattle.sl_law_meaning.specs.declared.fault.Scope.TheVariants as scope
use Rattle.sl_law_meaning.specs.returns.Election.{Election, lands_of, parties_of}
use Rattle.sl_code_instructions.specs.declared.operand.Entries.{Entries}
use Rattle.sl_code_instructions.specs.declared.operand.Entries.TheVariants as entries
use Rattle.sl_code_instructions.specs.declared.operand.ScopeKind.{ScopeKind}
use Rattle.sl_code_instructions.specs.declared.operand.ScopeKind.TheVariants as kind
use Rattle.sl_code_semantics.specs.State.{State}

abbrev pub both : {A : Type 0} → Option ℕ → Option ℕ → (ℕ → ℕ → A) → Option A
both a b f = option_and_then (λ x. option_map (λ y. f x y) b) a

-- the cells of a column
abbrev pub cells_of : Election → Shape → ℕ
cells_of e shape.One = 1
cells_of e shape.Party = parties_of e
cells_of e shape.Land = lands_of e
cells_of e shape.List = lands_of e * parties_of e

-- the cell of a column at the cursors of its shape
abbrev pub cell_at : Election → Shape → State → Option ℕ
cell_at e shape.One s = Some 0
cell_at e shape.Party s = s.party
cell_at e shape.Land s = s.land
cell_at e shape.List s = both s.land s.party (λ land party. land * parties_of e + party)

-- the number of the table's entry at the cursors
abbrev pub index_at : Election → Entries → State → Option ℕ
index_at e entries.Party s = s.party
index_at e entries.Land s = s.land
index_at e entries.List s = both s.land s.party (λ land party. land * parties_of e + party)
index_at e entries.Win s = s.win

-- the item of that number
abbrev pub item_of : Election → Entries → ℕ → Item
item_of e entries.Party index = item.Party index
item_of e entries.Land index = item.Land index
item_of e entries.List index = item.List (index / parties_of e) (index % parties_of e)
item_of e entries.Win index = item.Win index

-- the cursors on the entry of that number
abbrev pub at_entry : Election → Entries → ℕ → State → State
at_entry e entries.Party index s = record s { party = Some index }
at_entry e entries.Land index s = record s { land = Some index }
at_entry e entries.List index s = record s { land = Some (index / parties_of e); party = Some (index % parties_of e) }
at_entry e entries.Win index s = record s { win = Some index }

abbrev pub scope_at : ScopeKind → State → Option Scope
scope_at kind.All s = Some scope.All
scope_at kind.Land s = option_map scope.Land s.land
scope_at kind.Party s = option_map scope.Party s.party
scope_at kind.List s = both s.land s.party scope.List
