-- What reading a file, an instruction or an element gives.
use Rattle.std.specs.Prelude.{◌≡◌, ℕ, Bool, ◌||◌, List, [], ◌++◌, flat_map, nat_eq, nat_le, ◌&&◌, length, IsTrue, Result, Ok, Err}
use Rattle.sl_base_terms.specs.Words.{is_word}
use Rattle.sl_code.specs.declared.fault.Cause.TheVariants as causes
use Rattle.sl_code.specs.declared.fault.Stop.{Stop}
use Rattle.sl_code.specs.declared.fault.CodeFault.{CodeFault}
use Rattle.sl_code.specs.declared.fault.Refusal.{Refusal}
use Rattle.sl_code.specs.declared.fault.Refusal.TheVariants as refusals
use Rattle.sl_code_instructions.specs.declared.instr.Instr.{Instr}
use Rattle.sl_code_instructions.specs.Codes.{CountingCode}
use Rattle.sl_code_instructions.specs.Rows.{opcode_of, operands_of}
use Rattle.sl_code.specs.Operands.{bytes_of}
use Rattle.sl_code.specs.Spelling.{spelling_of}
use Rattle.sl_code.specs.Faults.{FailsTests, stop_at, IsRefusal}
use Rattle.sl_code_instructions.specs.Proper.{IsInRange, IsProper}

-- what reading may answer for these bytes: a proper code that they spell; else their fault, or that memory ran out
abbrev pub IsReading : List ℕ → Result CountingCode CodeFault → Type 0
IsReading bytes (Ok c) = (bytes ≡ spelling_of c) × IsProper c
IsReading bytes (Err fault) = IsRefusal bytes fault

-- memory ran out, or reading stopped as P says
abbrev pub Refuses : (Stop → Type 0) → Refusal → Type 0
Refuses P (refusals.Stop stop) = P stop
Refuses P refusals.NoMemory = Unit {0}

-- no byte is left
pub record Ends (here : List ℕ) (stop : Stop) : Type 0 where
  pub none : here ≡ []
  pub is : stop ≡ stop_at causes.Short []

-- the first bytes fail these tests, whatever is asked of those after
pub record FailsAhead (tests : List (ℕ → Bool)) (here : List ℕ) (stop : Stop) : Type 0 where
  pub fails : (more : List (ℕ → Bool)) → FailsTests (stop_at causes.Op) (tests ++ more) here stop

-- the operands of an instruction of that operation stand here, in front of the rest
pub record Reads (op : ℕ) (here rest : List ℕ) (i : Instr) : Type 0 where
  pub operation : opcode_of i ≡ op
  pub operands : here ≡ flat_map bytes_of (operands_of i) ++ rest
  pub in_range : IsInRange i

-- a name of that length stands here, in front of the rest
pub record IsName (n : ℕ) (here rest name : List ℕ) : Type 0 where
  pub stands : here ≡ name ++ rest
  pub long : length name ≡ n
  pub word : IsTrue (is_word name)

-- ---- operations whose operands are alike

-- two registers
abbrev pub is_binary : ℕ → Bool
is_binary op = nat_le 0x02 op && nat_le op 0x08

-- a register and a slot, or two slots
abbrev pub is_column : ℕ → Bool
is_column op = nat_eq op 0x0d || nat_eq op 0x0e || nat_eq op 0x2b

-- a target
abbrev pub is_jump : ℕ → Bool
is_jump op = nat_eq op 0x09 || nat_eq op 0x0c || nat_eq op 0x12 || (nat_le 0x14 op && nat_le op 0x19)

-- a register or a stage, and a target
abbrev pub is_branch : ℕ → Bool
is_branch op = nat_eq op 0x0a || nat_eq op 0x1f || nat_eq op 0x21

-- a register, a slot or a stage
abbrev pub is_unary : ℕ → Bool
is_unary op = nat_eq op 0x0f || nat_eq op 0x11 || nat_eq op 0x1c || nat_eq op 0x22 || nat_eq op 0x29

-- a stage, a scope and a register
abbrev pub is_scoped : ℕ → Bool
is_scoped op = nat_eq op 0x24 || nat_eq op 0x26
