-- How a code is spelled in bytes (docs/code.md, section 1).
use Rattle.std.specs.Prelude.{ℕ, List, [], ◌∷◌, ◌++◌, length, map, flat_map}
use Rattle.sl_base_terms.specs.declared.shape.Shape.{Shape}
use Rattle.sl_code_instructions.specs.declared.code.CodeStage.{CodeStage}
use Rattle.sl_code_instructions.specs.declared.instr.Instr.{Instr}
use Rattle.sl_code_instructions.specs.Codes.{CountingCode}
use Rattle.sl_base_terms.specs.Shapes.{shape_number}
use Rattle.sl_code_instructions.specs.Rows.{opcode_of, operands_of}
use Rattle.sl_code.specs.Operands.{bytes_of, four_bytes}

-- an instruction: its operation and its operands
abbrev pub instr_bytes : Instr → List ℕ
instr_bytes i = opcode_of i ∷ flat_map bytes_of (operands_of i)

-- a stage: the length of its name, the name, and the slot
abbrev pub stage_bytes : CodeStage → List ℕ
stage_bytes s = length s.name ∷ s.name ++ s.slot ∷ []

-- the letters SLC and the version
abbrev pub opening : List ℕ
opening = 0x53 ∷ 0x4c ∷ 0x43 ∷ 1 ∷ []

-- each list with the number of its elements in front
abbrev pub stages_part : List CodeStage → List ℕ
stages_part stages = length stages ∷ flat_map stage_bytes stages

abbrev pub slots_part : List Shape → List ℕ
slots_part slots = length slots ∷ map shape_number slots

abbrev pub instrs_part : List Instr → List ℕ
instrs_part instrs = four_bytes (length instrs) ++ flat_map instr_bytes instrs

-- the one spelling of a code
abbrev pub spelling_of : CountingCode → List ℕ
spelling_of c = opening ++ stages_part c.stages ++ slots_part c.slots ++ instrs_part c.instrs
