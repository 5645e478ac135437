-- The instructions, in a row for each: its operation, its name and its operands (docs/code.md, section 2); and what is read off a row.
use Rattle.std.specs.Prelude.{ℕ, List, [], ◌∷◌, Option, Some, None, codes, map, filter_map, slice_get}
use Rattle.sl_code_instructions.specs.declared.instr.Instr.{Instr}
use Rattle.sl_code_instructions.specs.declared.instr.Instr.TheVariants.{Set, Mov, Add, Sub, Mul, Div, Rem, Max, Jmp, Jz, Jlt, Jnl, Get, Store, Zero, Input, House, Wparty, Wland, Fparty, Nparty, Fland, Nland, Fwin, Nwin, Table, Prio, Rest, Lead, Share, Peers, Take, Lot, Takelot, Emit, Given, Fault, Tie, Seat, Single, Halt, At, Haltv, Weigh}
use Rattle.sl_code_instructions.specs.declared.parts.Operand.{Operand}
use Rattle.sl_code_instructions.specs.declared.parts.Operand.TheVariants as o

-- an operand, and what the instruction does with the register or the slot that it names
pub data Part : Type 0 where
  -- it reads it
  reads : Operand → Part
  -- it may leave another number in it
  writes : Operand → Part
  -- both
  changes : Operand → Part
  -- no register and no slot is named
  has : Operand → Part

pub record Row : Type 0 where
  pub opcode : ℕ
  pub name : List ℕ
  pub parts : List Part

abbrev row : ℕ → List ℕ → List Part → Row
row opcode name parts = record { opcode = opcode; name = name; parts = parts }

abbrev pub row_of : Instr → Row
row_of (Set r x) = row 0x01 (codes "set") (writes (o.Register r) ∷ has (o.Value x) ∷ [])
row_of (Mov r s) = row 0x02 (codes "mov") (writes (o.Register r) ∷ reads (o.Register s) ∷ [])
row_of (Add r s) = row 0x03 (codes "add") (changes (o.Register r) ∷ reads (o.Register s) ∷ [])
row_of (Sub r s) = row 0x04 (codes "sub") (changes (o.Register r) ∷ reads (o.Register s) ∷ [])
row_of (Mul r s) = row 0x05 (codes "mul") (changes (o.Register r) ∷ reads (o.Register s) ∷ [])
row_of (Div r s) = row 0x06 (codes "div") (changes (o.Register r) ∷ reads (o.Register s) ∷ [])
row_of (Rem r s) = row 0x07 (codes "rem") (changes (o.Register r) ∷ reads (o.Register s) ∷ [])
row_of (Max r s) = row 0x08 (codes "max") (changes (o.Register r) ∷ reads (o.Register s) ∷ [])
row_of (Jmp t) = row 0x09 (codes "jmp") (has (o.Target t) ∷ [])
row_of (Jz r t) = row 0x0a (codes "jz") (reads (o.Register r) ∷ has (o.Target t) ∷ [])
row_of (Jlt r s t) = row 0x0b (codes "jlt") (reads (o.Register r) ∷ reads (o.Register s) ∷ has (o.Target t) ∷ [])
row_of (Jnl t) = row 0x0c (codes "jnl") (has (o.Target t) ∷ [])
row_of (Get r k) = row 0x0d (codes "get") (writes (o.Register r) ∷ reads (o.Slot k) ∷ [])
row_of (Store k r) = row 0x0e (codes "store") (writes (o.Slot k) ∷ reads (o.Register r) ∷ [])
row_of (Zero k) = row 0x0f (codes "zero") (writes (o.Slot k) ∷ [])
row_of (Input k i) = row 0x10 (codes "input") (writes (o.Slot k) ∷ has (o.Input i) ∷ [])
row_of (House r) = row 0x11 (codes "house") (writes (o.Register r) ∷ [])
row_of (Wparty t) = row 0x12 (codes "wparty") (has (o.Target t) ∷ [])
row_of Wland = row 0x13 (codes "wland") []
row_of (Fparty t) = row 0x14 (codes "fparty") (has (o.Target t) ∷ [])
row_of (Nparty t) = row 0x15 (codes "nparty") (has (o.Target t) ∷ [])
row_of (Fland t) = row 0x16 (codes "fland") (has (o.Target t) ∷ [])
row_of (Nland t) = row 0x17 (codes "nland") (has (o.Target t) ∷ [])
row_of (Fwin t) = row 0x18 (codes "fwin") (has (o.Target t) ∷ [])
row_of (Nwin t) = row 0x19 (codes "nwin") (has (o.Target t) ∷ [])
row_of (Table e ranking) = row 0x1a (codes "table") (has (o.Entries e) ∷ has (o.Ranking ranking) ∷ [])
row_of (Prio m r s) = row 0x1b (codes "prio") (has (o.Method m) ∷ reads (o.Register r) ∷ reads (o.Register s) ∷ [])
row_of (Rest r) = row 0x1c (codes "rest") (reads (o.Register r) ∷ [])
row_of Lead = row 0x1d (codes "lead") []
row_of Share = row 0x1e (codes "share") []
row_of (Peers r t) = row 0x1f (codes "peers") (writes (o.Register r) ∷ has (o.Target t) ∷ [])
row_of Take = row 0x20 (codes "take") []
row_of (Lot n t) = row 0x21 (codes "lot") (has (o.Stage n) ∷ has (o.Target t) ∷ [])
row_of (Takelot n) = row 0x22 (codes "takelot") (has (o.Stage n) ∷ [])
row_of (Emit n c r s) = row 0x23 (codes "emit") (has (o.Stage n) ∷ has (o.Scope c) ∷ reads (o.Register r) ∷ reads (o.Register s) ∷ [])
row_of (Given n c r) = row 0x24 (codes "given") (has (o.Stage n) ∷ has (o.Scope c) ∷ reads (o.Register r) ∷ [])
row_of (Fault n c f) = row 0x25 (codes "fault") (has (o.Stage n) ∷ has (o.Scope c) ∷ has (o.Fault f) ∷ [])
row_of (Tie n c r) = row 0x26 (codes "tie") (has (o.Stage n) ∷ has (o.Scope c) ∷ reads (o.Register r) ∷ [])
row_of Seat = row 0x27 (codes "seat") []
row_of Single = row 0x28 (codes "single") []
row_of (Halt k) = row 0x29 (codes "halt") (reads (o.Slot k) ∷ [])
row_of (At kinds) = row 0x2a (codes "at") (has (o.Positive kinds.positive) ∷ has (o.Cursors kinds.cursors) ∷ has (o.Table kinds.table) ∷ [])
row_of (Haltv k v) = row 0x2b (codes "haltv") (reads (o.Slot k) ∷ reads (o.Slot v) ∷ [])
row_of (Weigh n c m r) = row 0x2c (codes "weigh") (has (o.Stage n) ∷ has (o.Scope c) ∷ has (o.Rounding m) ∷ reads (o.Register r) ∷ [])

abbrev pub opcode_of : Instr → ℕ
opcode_of i = (row_of i).opcode

abbrev pub name_of : Instr → List ℕ
name_of i = (row_of i).name

abbrev operand_in : Part → Operand
operand_in (reads x) = x
operand_in (writes x) = x
operand_in (changes x) = x
operand_in (has x) = x

abbrev pub operands_of : Instr → List Operand
operands_of i = map operand_in (row_of i).parts

-- ---- what an instruction names

abbrev pub register_in : Operand → Option ℕ
register_in (o.Register r) = Some r
register_in _ = None

abbrev pub slot_in : Operand → Option ℕ
slot_in (o.Slot k) = Some k
slot_in _ = None

abbrev pub stage_in : Operand → Option ℕ
stage_in (o.Stage n) = Some n
stage_in _ = None

abbrev pub target_in : Operand → Option ℕ
target_in (o.Target t) = Some t
target_in _ = None

abbrev pub registers_of : Instr → List ℕ
registers_of i = filter_map register_in (operands_of i)

abbrev pub slots_of : Instr → List ℕ
slots_of i = filter_map slot_in (operands_of i)

abbrev pub stages_of : Instr → List ℕ
stages_of i = filter_map stage_in (operands_of i)

-- where it may jump: no instruction has two targets
abbrev pub target_of : Instr → Option ℕ
target_of i = slice_get (filter_map target_in (operands_of i)) 0
