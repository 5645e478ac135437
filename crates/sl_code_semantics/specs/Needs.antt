-- What an instruction needs (docs/verifier.md, section 2).
use Rattle.std.specs.Prelude.{ℕ, Bool, true, false, not, ◌&&◌, ◌||◌, ◌==◌, nat_lt, List, [], ◌∷◌, ◌++◌, map, Option, Some, None, is_some}
use Rattle.std.specs.Option.{option_map_or}
use Rattle.sl_base_terms.specs.declared.shape.Shape.{Shape}
use Rattle.sl_base_terms.specs.declared.shape.Shape.TheVariants as shape
use Rattle.sl_base_terms.specs.Shapes.{same_shape}
use Rattle.sl_code_instructions.specs.Rows.{registers_of, slots_of, stages_of}
use Rattle.sl_code_instructions.specs.declared.instr.Instr.{Instr}
use Rattle.sl_code_instructions.specs.declared.instr.Instr.TheVariants as op
use Rattle.sl_code_instructions.specs.declared.kinds.Cursors.{Cursors}
use Rattle.sl_code_instructions.specs.declared.kinds.TableState.{TableState}
use Rattle.sl_code_instructions.specs.declared.kinds.Kinds.{Kinds}
use Rattle.sl_code_instructions.specs.declared.operand.Input.{Input}
use Rattle.sl_code_instructions.specs.declared.operand.Input.TheVariants as input
use Rattle.sl_code_instructions.specs.declared.operand.ScopeKind.{ScopeKind}
use Rattle.sl_code_instructions.specs.declared.operand.ScopeKind.TheVariants as scope
use Rattle.sl_code_instructions.specs.declared.operand.Entries.{Entries}
use Rattle.sl_code_instructions.specs.declared.operand.Entries.TheVariants as entries
use Rattle.sl_code_instructions.specs.declared.operand.Ranking.{Ranking}
use Rattle.sl_code_instructions.specs.declared.operand.Ranking.TheVariants as ranking
use Rattle.sl_code_semantics.specs.declared.known.TheConstants.{LAST_CLAUSE}
use Rattle.sl_code_semantics.specs.Kinds.{is_register, contains, no_cursors, party_cursor, land_cursor, list_cursors, win_cursor, covers, same_entries, same_ranking}

-- What the instructions of a code are judged by.
pub record Context : Type 0 where
  -- the shape of each slot that is there
  pub slots : ℕ → Option Shape
  -- how many stages there are
  pub stages : ℕ
  -- the kinds that the `at` at each place declares
  pub declared : ℕ → Option Kinds

abbrev pub all_hold : List Bool → Bool
all_hold [] = true
all_hold (b ∷ []) = b
all_hold (b ∷ c ∷ bs) = b && all_hold (c ∷ bs)

-- ---- registers

-- the machine has the registers that the instruction names
abbrev pub has_registers : Instr → Bool
has_registers i = all_hold (map is_register (registers_of i))

-- ---- columns and stages

abbrev pub has_slot : Context → ℕ → Bool
has_slot x k = is_some (x.slots k)

-- the slot's column has that shape
abbrev pub has_column : Context → ℕ → Shape → Bool
has_column x k s = option_map_or (same_shape s) (x.slots k) false

abbrev pub has_stage : Context → ℕ → Bool
has_stage x n = (n == LAST_CLAUSE) || nat_lt n x.stages

-- the shape of a column of the returns
abbrev pub input_shape : Input → Shape
input_shape input.Valid = shape.List
input_shape input.Counted = shape.List
input_shape input.Minority = shape.Party
input_shape input.Population = shape.Land
input_shape input.Names = shape.List

-- the shape that the columns must have, if any does not do
abbrev pub needed_shape : Instr → Option Shape
needed_shape (op.Input k i) = Some (input_shape i)
needed_shape (op.Halt k) = Some shape.List
needed_shape (op.Haltv k v) = Some shape.List
needed_shape _ = None

-- the slot is there, with that shape, if one is needed
abbrev pub suits : Context → Option Shape → ℕ → Bool
suits x None k = has_slot x k
suits x (Some s) k = has_column x k s

-- the columns and the stage that the instruction names are there
abbrev pub has_columns : Context → Instr → Bool
has_columns x i = all_hold (map (suits x (needed_shape i)) (slots_of i) ++ map (has_stage x) (stages_of i))

-- ---- positive registers and cursors

-- the register that must be positive
abbrev pub needed_positive : Instr → Option ℕ
needed_positive (op.Div r s) = Some s
needed_positive (op.Rem r s) = Some s
needed_positive (op.Prio m r s) = Some r
needed_positive (op.Weigh n c m r) = Some r
needed_positive _ = None

-- the cursors that say a cell of a column
abbrev pub shape_cursors : Shape → Cursors
shape_cursors shape.One = no_cursors
shape_cursors shape.Party = party_cursor
shape_cursors shape.Land = land_cursor
shape_cursors shape.List = list_cursors

-- the cursors that say a scope
abbrev pub scope_cursors : ScopeKind → Cursors
scope_cursors scope.All = no_cursors
scope_cursors scope.Party = party_cursor
scope_cursors scope.Land = land_cursor
scope_cursors scope.List = list_cursors

-- the cursors that say an entry
abbrev pub entry_cursors : Entries → Cursors
entry_cursors entries.Party = party_cursor
entry_cursors entries.Land = land_cursor
entry_cursors entries.List = list_cursors
entry_cursors entries.Win = win_cursor

-- those of a slot's column; none, where it is not there
abbrev pub slot_cursors : Context → ℕ → Cursors
slot_cursors x k = option_map_or shape_cursors (x.slots k) no_cursors

-- those of the table's entries; none, where it is off
abbrev pub table_cursors : Option TableState → Cursors
table_cursors table = option_map_or (λ t. entry_cursors t.entries) table no_cursors

-- the cursors that must be set, where that is known of the table
abbrev pub needed_cursors : Context → Option TableState → Instr → Cursors
needed_cursors x table (op.Jnl t) = list_cursors
needed_cursors x table (op.Get r k) = slot_cursors x k
needed_cursors x table (op.Store k r) = slot_cursors x k
needed_cursors x table (op.Wparty t) = win_cursor
needed_cursors x table op.Wland = win_cursor
needed_cursors x table (op.Nparty t) = party_cursor
needed_cursors x table (op.Nland t) = land_cursor
needed_cursors x table (op.Nwin t) = win_cursor
needed_cursors x table (op.Prio m r s) = table_cursors table
needed_cursors x table (op.Rest r) = table_cursors table
needed_cursors x table op.Lead = table_cursors table
needed_cursors x table op.Share = win_cursor
needed_cursors x table (op.Emit n c r s) = scope_cursors c
needed_cursors x table (op.Given n c r) = scope_cursors c
needed_cursors x table (op.Fault n c f) = scope_cursors c
needed_cursors x table (op.Tie n c r) = scope_cursors c
needed_cursors x table op.Seat = win_cursor
needed_cursors x table op.Single = win_cursor
needed_cursors x table (op.Weigh n c m r) = scope_cursors c
needed_cursors x table _ = no_cursors

-- the register that must be positive is, and the cursors that must be set are
abbrev pub has_kinds : Context → Kinds → Instr → Bool
has_kinds x k i = option_map_or (contains k.positive) (needed_positive i) true && covers k.cursors (needed_cursors x k.table i)

-- ---- the table

-- a table of parties, Länder or lists, ranked so
abbrev pub takes_entry : Ranking → TableState → Bool
takes_entry o t = not (same_entries t.entries entries.Win) && same_ranking t.ranking o

-- a table of winners, ranked by quotients
abbrev pub takes_share : TableState → Bool
takes_share t = same_entries t.entries entries.Win && same_ranking t.ranking ranking.Quotients

-- a table of parties, Länder or lists, to whose entries the cursors point
abbrev pub points_at : Cursors → TableState → Bool
points_at cursors t = not (same_entries t.entries entries.Win) && covers cursors (entry_cursors t.entries)

-- the table is on and such a one
abbrev pub is_table : (TableState → Bool) → Option TableState → Bool
is_table p table = option_map_or p table false

-- the table is as the instruction needs it
abbrev pub has_table : Kinds → Instr → Bool
has_table k (op.Prio m r s) = is_table (takes_entry ranking.Quotients) k.table
has_table k (op.Rest r) = is_table (takes_entry ranking.Remainders) k.table
has_table k op.Lead = is_table (takes_entry ranking.Remainders) k.table
has_table k op.Share = is_table takes_share k.table
has_table k (op.Peers r t) = is_table (λ t. true) k.table
has_table k op.Take = is_table (λ t. t.ready) k.table
has_table k (op.Lot n t) = is_table (λ t. t.ready) k.table
has_table k (op.Takelot n) = is_table (λ t. t.ready) k.table
has_table k (op.Emit n c r s) = is_table (points_at k.cursors) k.table
has_table k (op.Given n c r) = is_table (points_at k.cursors) k.table
has_table k (op.Tie n c r) = is_table (λ t. t.ready) k.table
has_table k (op.Weigh n c m r) = is_table (points_at k.cursors) k.table
has_table k _ = true

-- ---- all of it

-- an instruction with these kinds before it has what it needs
abbrev pub has_needs : Context → Kinds → Instr → Bool
has_needs x k i = has_registers i && has_columns x i && has_kinds x k i && has_table k i
