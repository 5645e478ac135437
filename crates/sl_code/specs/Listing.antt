-- The listing of a code (docs/code.md, section 3).
use Rattle.std.specs.Prelude.{ℕ, List, [], ◌∷◌, ◌++◌, flat_map}
use Rattle.std.specs.List.{enumerate_from}
use Rattle.std.specs.Fmt.{decimal}
use Rattle.sl_code_instructions.specs.declared.instr.Instr.{Instr}
use Rattle.sl_code_instructions.specs.declared.parts.Operand.{Operand}
use Rattle.sl_code_instructions.specs.Codes.{CountingCode}
use Rattle.sl_code_instructions.specs.Rows.{name_of, operands_of}
use Rattle.sl_code_instructions.specs.Numbers.{value_of}

-- a blank, and the operand in plain decimal
abbrev pub operand_word : Operand → List ℕ
operand_word o = 32 ∷ decimal (value_of o)

-- the instruction's number, its name and its operands, separated by one blank, and LF
abbrev pub line_of : ℕ → Instr → List ℕ
line_of number i = decimal number ++ 32 ∷ name_of i ++ flat_map operand_word (operands_of i) ++ 10 ∷ []

-- a line for each instruction, numbered from 0
abbrev pub listing_of : CountingCode → List ℕ
listing_of c = flat_map (λ entry. line_of entry.0 entry.1) (enumerate_from 0 c.instrs)
