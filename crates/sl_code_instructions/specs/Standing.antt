-- Where instructions stand in a code.
use Rattle.std.specs.Prelude.{◌≡◌, ℕ, List, ◌++◌, length}
use Rattle.sl_code_instructions.specs.declared.instr.Instr.{Instr}
use Rattle.sl_code_instructions.specs.Codes.{CountingCode}

-- these instructions stand in the code one after the other, the first at that place
pub record HasAt (code : CountingCode) (at : ℕ) (is : List Instr) : Type 0 where
  pub before : List Instr
  pub after : List Instr
  pub placed : length before ≡ at
  pub whole : code.instrs ≡ before ++ (is ++ after)
