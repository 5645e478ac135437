-- The file of a code is not too long: as many stages, slots and instructions as there may be have room.
use Rattle.std.proofs.Common.{◌≡◌, ℕ, ◌+◌, ◌*◌, ◌≤◌, true, List, [], ◌∷◌, ◌++◌, All, length, flat_map, nat_le, nat_eq, ◌&&◌, ◌||◌, IsTrue, refl, arith, length-append, leb-true}
use Rattle.std.specs.List.{list_all}
use Rattle.std.proofs.lemmas.List.{length-map}
use Rattle.std.proofs.lemmas.List.Elements.{All-tail}
use Rattle.std.proofs.lemmas.Bool.{and_parts, false≢true}
use Rattle.sl_base_quotients.specs.declared.spelling.TheConstants.{MAX_NAME_BYTES}
use Rattle.sl_base_terms.specs.Words.{is_word, is_letter, is_digit}
use Rattle.sl_code_instructions.specs.declared.code.CodeStage.{CodeStage}
use Rattle.sl_code_instructions.specs.declared.instr.Instr.{Instr}
use Rattle.sl_code_instructions.specs.declared.instr.Instr.TheVariants as instr
use Rattle.sl_code_instructions.specs.declared.parts.Operand.{Operand}
use Rattle.sl_code_instructions.specs.declared.parts.Operand.TheVariants as o
use Rattle.sl_code_instructions.specs.Codes.{CountingCode}
use Rattle.sl_code_instructions.specs.Proper.{IsStage}
use Rattle.sl_base_terms.specs.Shapes.{shape_number}
use Rattle.sl_code.specs.Operands.{bytes_of, two_bytes, four_bytes, eight_bytes}
use Rattle.sl_code_instructions.specs.Proper.{IsProper}
use Rattle.sl_code_instructions.specs.Rows.{operands_of}
use Rattle.sl_code.specs.Spelling.{instr_bytes, stage_bytes, opening, stages_part, slots_part, instrs_part, spelling_of}
use Rattle.sl_count_inputs.specs.declared.limits.TheConstants.{MAX_CODE_BYTES}

-- ---- lists of pieces

-- pieces of at most so many bytes
pieces_long : {X : Type 0} (bytes : X → List ℕ) (most : ℕ) → ((x : X) → length (bytes x) ≤ most) → (xs : List X) → length (flat_map bytes xs) ≤ most * length xs
pieces_long bytes most each [] = omega arith
pieces_long bytes most each (x ∷ xs) =
    omega (arith, length-append (bytes x) (flat_map bytes xs), each x, pieces_long bytes most each xs)

-- ---- instructions

-- how many bytes an operand has
abbrev weight : Operand → ℕ
weight (o.Target t) = 4
weight (o.Value x) = 8
weight (o.Positive registers) = 2
weight _ = 1

weighs : (operand : Operand) → length (bytes_of operand) ≡ weight operand
unfolding two_bytes four_bytes eight_bytes
weighs (o.Register r) = refl
weighs x = refl

abbrev weight_of : List Operand → ℕ
weight_of [] = 0
weight_of (x ∷ os) = weight x + weight_of os

operands_long : (os : List Operand) → length (flat_map bytes_of os) ≡ weight_of os
operands_long [] = refl
operands_long (x ∷ os) = omega (arith, length-append (bytes_of x) (flat_map bytes_of os), weighs x, operands_long os)

light : (i : Instr) → nat_le (weight_of (operands_of i)) 19 ≡ true
light (instr.Set r x) = refl
light x = refl

instr_long : (i : Instr) → length (instr_bytes i) ≤ 20
instr_long i = let few = leb-true (weight_of (operands_of i)) 19 (light i) in omega (arith, few, operands_long (operands_of i))

-- ---- stages

word_long : (name : List ℕ) → IsTrue (is_word name) → length name ≤ MAX_NAME_BYTES
word_long [] word = absurd (false≢true word)
word_long (b ∷ more) word =
    leb-true (length (b ∷ more)) MAX_NAME_BYTES
    (and_parts (is_letter b && list_all (λ c. is_letter c || is_digit c || nat_eq c 95) more) (nat_le (length (b ∷ more)) MAX_NAME_BYTES) word).1

stages_long : (stages : List CodeStage) → All IsStage stages → length (flat_map stage_bytes stages) ≤ 14 * length stages
stages_long [] words = omega arith
stages_long (s ∷ stages) words =
    omega (
      arith,
      length-append (stage_bytes s) (flat_map stage_bytes stages),
      length-append s.name (s.slot ∷ []),
      word_long s.name (words 0 s (omega arith)),
      stages_long stages (All-tail IsStage s stages words),
    )

-- ---- files

-- four parts, one after the other
parts_long : (a b c d : List ℕ) → length (a ++ b ++ c ++ d) ≡ length a + length b + length c + length d
parts_long a b c d = omega (arith, length-append (a ++ b ++ c) d, length-append (a ++ b) c, length-append a b)

instrs_long : (instrs : List Instr) → length (instrs_part instrs) ≤ 4 + 20 * length instrs
unfolding four_bytes
instrs_long instrs = omega (arith, length-append (four_bytes (length instrs)) (flat_map instr_bytes instrs), pieces_long instr_bytes 20 instr_long instrs)

pub file_fits : (c : CountingCode) → IsProper c → length (spelling_of c) ≤ MAX_CODE_BYTES
file_fits c proper =
    let limits = proper.limits in
    let many = limits.instrs in
    let few = limits.stages in
    let slots = limits.slots in
    omega (
      arith,
      parts_long opening (stages_part c.stages) (slots_part c.slots) (instrs_part c.instrs),
      stages_long c.stages proper.words,
      instrs_long c.instrs,
      many,
      few,
      slots,
      length-map c.slots shape_number,
    )
