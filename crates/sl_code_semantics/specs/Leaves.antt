-- What is known after an instruction, and where it jumps to (docs/verifier.md, section 2).
use Rattle.std.specs.Prelude.{Bool, true, false, ◌&&◌, ◌||◌, nat_lt, Option, Some, None, if◌then◌else◌}
use Rattle.sl_code_instructions.specs.declared.instr.Instr.{Instr}
use Rattle.sl_code_instructions.specs.declared.instr.Instr.TheVariants as op
use Rattle.sl_code_instructions.specs.declared.kinds.Registers.{Registers}
use Rattle.sl_code_instructions.specs.declared.kinds.Cursors.{Cursors}
use Rattle.sl_code_instructions.specs.declared.kinds.TableState.{TableState}
use Rattle.sl_code_instructions.specs.declared.kinds.Kinds.{Kinds}
use Rattle.sl_code_semantics.specs.Kinds.{contains, with_register, join}
use Rattle.sl_code_semantics.specs.Needs.{table_cursors}

-- ---- the next instruction

-- the run never goes on to the next instruction
abbrev pub ends : Instr → Bool
ends (op.Jmp t) = true
ends (op.Fault n c f) = true
ends (op.Tie n c r) = true
ends (op.Halt k) = true
ends (op.Haltv k v) = true
ends _ = false

-- the registers that are positive after an instruction
abbrev pub positive_behind : Registers → Instr → Registers
positive_behind rs (op.Set r x) = with_register (nat_lt 0 x) r rs
positive_behind rs (op.Mov r s) = with_register (contains rs s) r rs
positive_behind rs (op.Add r s) = with_register (contains rs r || contains rs s) r rs
positive_behind rs (op.Sub r s) = with_register false r rs
positive_behind rs (op.Mul r s) = with_register (contains rs r && contains rs s) r rs
positive_behind rs (op.Div r s) = with_register false r rs
positive_behind rs (op.Rem r s) = with_register false r rs
positive_behind rs (op.Max r s) = with_register (contains rs r || contains rs s) r rs
positive_behind rs (op.Jz r t) = with_register true r rs
positive_behind rs (op.Get r k) = with_register false r rs
positive_behind rs (op.Peers r t) = with_register true r rs
positive_behind rs _ = rs

abbrev pub with_party : Bool → Cursors → Cursors
with_party b c = record c { party = b }

abbrev pub with_land : Bool → Cursors → Cursors
with_land b c = record c { land = b }

abbrev pub with_win : Bool → Cursors → Cursors
with_win b c = record c { win = b }

-- the cursors that are set after it
abbrev pub cursors_behind : Kinds → Instr → Cursors
cursors_behind k (op.Wparty t) = with_party true k.cursors
cursors_behind k op.Wland = with_land true k.cursors
cursors_behind k (op.Fparty t) = with_party true k.cursors
cursors_behind k (op.Nparty t) = with_party false k.cursors
cursors_behind k (op.Fland t) = with_land true k.cursors
cursors_behind k (op.Nland t) = with_land false k.cursors
cursors_behind k (op.Fwin t) = with_win true k.cursors
cursors_behind k (op.Nwin t) = with_win false k.cursors
cursors_behind k op.Take = join k.cursors (table_cursors k.table)
cursors_behind k (op.Takelot n) = join k.cursors (table_cursors k.table)
cursors_behind k _ = k.cursors

-- the same table, known not to be empty, or not known so
abbrev pub with_ready : Bool → Option TableState → Option TableState
with_ready b None = None
with_ready b (Some t) = Some (record t { ready = b })

-- what is known of the table after it
abbrev pub table_behind : Option TableState → Instr → Option TableState
table_behind table (op.Table e o) = Some (record { entries = e; ranking = o; ready = false })
table_behind table (op.Peers r t) = with_ready true table
table_behind table op.Take = with_ready false table
table_behind table (op.Takelot n) = with_ready false table
table_behind table _ = table

-- the kinds after an instruction with these before it, if the run goes on to the next
abbrev pub behind : Kinds → Instr → Option Kinds
behind k i =
    if ends i then None
    else Some (record { positive = positive_behind k.positive i; cursors = cursors_behind k i; table = table_behind k.table i })

-- ---- jumps

-- the cursors that are set where it jumps
abbrev pub cursors_carried : Cursors → Instr → Cursors
cursors_carried c (op.Wparty t) = with_party false c
cursors_carried c (op.Fparty t) = with_party false c
cursors_carried c (op.Fland t) = with_land false c
cursors_carried c (op.Fwin t) = with_win false c
cursors_carried c _ = c

-- the kinds that a jump carries
abbrev pub carried : Kinds → Instr → Kinds
carried k i = record k { cursors = cursors_carried k.cursors i }
