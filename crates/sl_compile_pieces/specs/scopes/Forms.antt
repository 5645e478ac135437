-- The five forms of a split or a growth, and the plans that go over their scopes and over the entries of a scope.
use Rattle.std.specs.Prelude.{◌≡◌, ℕ, List, [], Option, Some}
use Rattle.sl_base_terms.specs.declared.shape.Shape.{Shape}
use Rattle.sl_base_terms.specs.declared.shape.Shape.TheVariants as shape
use Rattle.sl_law_meaning.specs.declared.fault.Scope.{Scope}
use Rattle.sl_law_meaning.specs.declared.fault.Scope.TheVariants as scope
use Rattle.sl_law_meaning.specs.declared.fault.Item.{Item}
use Rattle.sl_law_meaning.specs.declared.fault.Item.TheVariants as item
use Rattle.sl_law_meaning.specs.returns.Election.{Election}
use Rattle.sl_law_meaning.specs.meaning.Scopes.{Group, scopes}
use Rattle.sl_code_instructions.specs.declared.operand.Entries.{Entries}
use Rattle.sl_code_instructions.specs.declared.operand.Entries.TheVariants as entries
use Rattle.sl_code_instructions.specs.declared.operand.ScopeKind.{ScopeKind}
use Rattle.sl_code_instructions.specs.declared.operand.ScopeKind.TheVariants as kind
use Rattle.sl_code_semantics.specs.State.{State}
use Rattle.sl_compile_plans.specs.declared.plan.Test.TheVariants as test
use Rattle.sl_compile_plans.specs.declared.plan.Cursor.TheVariants as cursor
use Rattle.sl_compile_plans.specs.Trees.{Tree, Line, If, Each}
pub use Rattle.sl_compile_pieces.specs.declared.form.Form.{Form}
pub use Rattle.sl_compile_pieces.specs.declared.form.Form.TheVariants.{AllParties, AllLands, AllLists, ListsOfParty, ListsInLand}

-- the shape of the amounts, and that of the votes
abbrev pub amounts_of : Form → Shape
amounts_of AllParties = shape.One
amounts_of AllLands = shape.One
amounts_of AllLists = shape.One
amounts_of ListsOfParty = shape.Party
amounts_of ListsInLand = shape.Land

abbrev pub votes_of : Form → Shape
votes_of AllParties = shape.Party
votes_of AllLands = shape.Land
votes_of AllLists = shape.List
votes_of ListsOfParty = shape.List
votes_of ListsInLand = shape.List

-- what the entries of the priority table are, and the code of the scope
abbrev pub table_of : Form → Entries
table_of AllParties = entries.Party
table_of AllLands = entries.Land
table_of AllLists = entries.List
table_of ListsOfParty = entries.List
table_of ListsInLand = entries.List

abbrev pub kind_of : Form → ScopeKind
kind_of AllParties = kind.All
kind_of AllLands = kind.All
kind_of AllLists = kind.All
kind_of ListsOfParty = kind.Party
kind_of ListsInLand = kind.Land

abbrev pub groups_of : Election → Form → List Group
groups_of e f = scopes e (amounts_of f) (votes_of f)

-- ---- plans

-- the plan where the Land and the party of the cursors have a list
abbrev pub on_list : Tree → Tree
on_list x = If test.NoList (Line []) x

-- the plan for each scope
abbrev pub scopes_plan : Form → Tree → Tree
scopes_plan AllParties x = x
scopes_plan AllLands x = x
scopes_plan AllLists x = x
scopes_plan ListsOfParty x = Each cursor.Party x
scopes_plan ListsInLand x = Each cursor.Land x

-- the plan for each entry of the scope at the cursors
abbrev pub entries_plan : Form → Tree → Tree
entries_plan AllParties x = Each cursor.Party x
entries_plan AllLands x = Each cursor.Land x
entries_plan AllLists x = Each cursor.Land (Each cursor.Party (on_list x))
entries_plan ListsOfParty x = Each cursor.Land (on_list x)
entries_plan ListsInLand x = Each cursor.Party (on_list x)

-- ---- cursors

-- the cursors of a scope stand at it; the scope of all entries has none
abbrev pub ScopeAt : Scope → Option ℕ → Option ℕ → Type 0
ScopeAt scope.All party land = Unit {0}
ScopeAt (scope.Party p) party land = party ≡ Some p
ScopeAt (scope.Land l) party land = land ≡ Some l
ScopeAt (scope.List l p) party land = (land ≡ Some l) × (party ≡ Some p)

abbrev pub OnScope : Scope → State → Type 0
OnScope on s = ScopeAt on s.party s.land

-- the cursors of an entry stand at it
abbrev pub ItemAt : Item → Option ℕ → Option ℕ → Option ℕ → Type 0
ItemAt (item.Party p) party land win = party ≡ Some p
ItemAt (item.Land l) party land win = land ≡ Some l
ItemAt (item.List l p) party land win = (land ≡ Some l) × (party ≡ Some p)
ItemAt (item.Win w) party land win = win ≡ Some w

abbrev pub OnItem : Item → State → Type 0
OnItem i s = ItemAt i s.party s.land s.win
