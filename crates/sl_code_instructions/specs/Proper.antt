-- What every code keeps by its types (docs/code.md, section 1).
use Rattle.std.specs.Prelude.{◌<◌, ◌^◌, All, IsTrue}
use Rattle.std.specs.List.{AllByRecursion}
use Rattle.sl_base_terms.specs.Words.{is_word}
use Rattle.sl_code_instructions.specs.declared.code.CodeStage.{CodeStage}
use Rattle.sl_code_instructions.specs.declared.instr.Instr.{Instr}
use Rattle.sl_code_instructions.specs.declared.parts.Operand.{Operand}
use Rattle.sl_code_instructions.specs.declared.parts.Operand.TheVariants as o
use Rattle.sl_code_instructions.specs.Codes.{CountingCode, IsCode}
use Rattle.sl_code_instructions.specs.Rows.{operands_of}

-- the name of a stage is a word
abbrev pub IsStage : CodeStage → Type 0
IsStage s = IsTrue (is_word s.name)

-- the number of an operand of several bytes fits them
abbrev pub FitsBytes : Operand → Type 0
FitsBytes (o.Target t) = t < 2 ^ 32
FitsBytes (o.Value x) = x < 2 ^ 64
FitsBytes (o.Positive registers) = registers.mask < 2 ^ 16
FitsBytes operand = Unit {0}

abbrev pub IsInRange : Instr → Type 0
IsInRange i = AllByRecursion FitsBytes (operands_of i)

pub record IsProper (c : CountingCode) : Type 0 where
  pub limits : IsCode c
  -- the names of the stages are words
  pub words : All IsStage c.stages
  -- the operands of the instructions fit their bytes
  pub in_range : All IsInRange c.instrs
