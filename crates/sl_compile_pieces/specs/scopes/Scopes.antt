-- What holds of the scopes of each form: where their amounts and their entries stand, and at which cursors.
use Rattle.std.specs.Prelude.{◌≡◌, ◌≢◌, ℕ, ◌<◌, map, Some, slice_get}
use Rattle.std.specs.List.Sorted.{IsStrictlyIncreasing}
use Rattle.sl_base_terms.specs.declared.shape.Shape.{Shape}
use Rattle.sl_law_meaning.specs.declared.fault.Scope.{Scope}
use Rattle.sl_law_meaning.specs.declared.fault.Item.{Item}
use Rattle.sl_law_meaning.specs.returns.Election.{Election}
use Rattle.sl_law_meaning.specs.meaning.Scopes.{Group, place}
use Rattle.sl_code_instructions.specs.declared.operand.Entries.{Entries}
use Rattle.sl_code_semantics.specs.State.{State}
use Rattle.sl_code_semantics.specs.Places.{cells_of, cell_at, index_at, item_of, at_entry, scope_at}
use Rattle.sl_compile_pieces.specs.scopes.Forms.{Form, amounts_of, votes_of, table_of, kind_of, groups_of, OnScope, OnItem}

-- an entry of a scope, in a table of that kind and in columns of that shape: its place tells which one it is, the cursors can be set to it,
-- and where they stand at it, they are at its place and at the scope
pub record IsEntry (e : Election) (k : Entries) (of : Shape) (on : Scope) (i : Item) : Type 0 where
  pub within : place e i < cells_of e of
  pub item : item_of e k (place e i) ≡ i
  pub set : (s : State) → OnItem i (at_entry e k (place e i) s)
  pub index : (s : State) → OnItem i s → index_at e k s ≡ Some (place e i)
  pub cell : (s : State) → OnItem i s → cell_at e of s ≡ Some (place e i)
  pub scope : (s : State) → OnItem i s → OnScope on s

-- a scope of a form: where the cursors stand at it, they are at its amount; its entries are in the order of their places
pub record IsScope (e : Election) (f : Form) (g : Group) : Type 0 where
  pub within : g.amount_place < cells_of e (amounts_of f)
  pub kind : (s : State) → OnScope g.scope s → scope_at (kind_of f) s ≡ Some g.scope
  pub amount : (s : State) → OnScope g.scope s → cell_at e (amounts_of f) s ≡ Some g.amount_place
  pub increasing : IsStrictlyIncreasing (map (place e) g.entries)
  pub entry : (j : ℕ) (i : Item) → slice_get g.entries j ≡ Some i → IsEntry e (table_of f) (votes_of f) g.scope i

abbrev pub ScopesHold : Type 0
ScopesHold = (e : Election) (f : Form) (m : ℕ) (g : Group) → slice_get (groups_of e f) m ≡ Some g → IsScope e f g

-- no two scopes have entries in one place
abbrev pub ScopesApart : Type 0
ScopesApart =
    (e : Election) (f : Form) (m n : ℕ) (g h : Group) → slice_get (groups_of e f) m ≡ Some g → slice_get (groups_of e f) n ≡ Some h → m ≢ n →
    (j k : ℕ) (i x : Item) → slice_get g.entries j ≡ Some i → slice_get h.entries k ≡ Some x → place e i ≢ place e x
