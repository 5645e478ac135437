-- The counting code of a rulebook: the blocks of the plans of its facts, of its stages and of its last clause, one after the other, and the halt
-- (docs/compiler.md, section 7).
use Rattle.std.specs.Prelude.{◌≡◌, ℕ, ◌+◌, ◌≤◌, List, [], ◌∷◌, ◌++◌, map, flat_map, length}
use Rattle.std.specs.List.{range_with_len}
use Rattle.sl_law_meaning.specs.declared.book.Cond.{Cond}
use Rattle.sl_base_terms.specs.declared.shape.Shape.{Shape}
use Rattle.sl_base_terms.specs.declared.shape.Shape.TheVariants as shape
use Rattle.sl_law_meaning.specs.book.Trees.{StageTree, BookTree}
use Rattle.sl_law_meaning.specs.book.Typing.{Column, columns_of}
use Rattle.sl_code_instructions.specs.declared.code.CodeStage.{CodeStage}
use Rattle.sl_code_instructions.specs.declared.instr.Instr.{Instr}
use Rattle.sl_code_instructions.specs.Codes.{CountingCode}
use Rattle.sl_compile_plans.specs.Trees.{Tree}
use Rattle.sl_compile_pieces.specs.declared.slots.TheConstants.{LEVELS}
use Rattle.sl_compile_pieces.specs.exprs.Slots.{stage_slot}
use Rattle.sl_compile_pieces.specs.exprs.Stages.{stages_pieces}
use Rattle.sl_compile_pieces.specs.closing.Trees.{last_pieces, halting}
use Rattle.sl_blocks.specs.Blocks.{HasSlotsOf}
use Rattle.sl_blocks.specs.Facts.{fact_shapes, closing_shapes, all_facts}
use Rattle.sl_blocks.specs.PlanBlocks.{AreBlocks}

-- ---- plans, where a few conditions stand for all of the book's

abbrev pub facts_pieces : List Cond → BookTree → List Tree
facts_pieces few b = all_facts few b.house.value

abbrev pub book_pieces : List Cond → BookTree → List Tree
book_pieces few b = facts_pieces few b ++ (stages_pieces [] 0 b.stages ++ last_pieces (columns_of [] b.stages) b.last)

-- ---- the code

-- the stages from that number on, each with its slot
abbrev pub code_stages : ℕ → List StageTree → List CodeStage
code_stages k [] = []
code_stages k (s ∷ ss) = record { name = s.name; slot = stage_slot k } ∷ code_stages (k + 1) ss

-- after the slots of facts and of the last clause a scratch column of each shape for each level
abbrev pub level_shapes : List Shape
level_shapes = shape.One ∷ (shape.Party ∷ (shape.Land ∷ (shape.List ∷ [])))

abbrev pub passing_shapes : List Shape
passing_shapes = flat_map (λ level. level_shapes) (range_with_len 0 LEVELS)

-- and a column for each stage
abbrev pub book_slots : List Column → List Shape
book_slots types = fact_shapes ++ (closing_shapes ++ (passing_shapes ++ map (λ c. c.type.shape) types))

abbrev pub book_code : BookTree → List Instr → CountingCode
book_code b instrs = record { instrs = instrs; stages = code_stages 0 b.stages; slots = book_slots (columns_of [] b.stages) }

-- a code has the slots of a book whose stages have these columns, whatever others it has, and so many stages
pub record HasSoFar (types : List Column) (n : ℕ) (code : CountingCode) : Type 0 where
  pub slots : HasSlotsOf (book_slots types) code
  pub stages : n ≤ length code.stages

-- the blocks of a book's plans, one after the other, and the halt
pub record AreBookInstrs (few : List Cond) (b : BookTree) (instrs : List Instr) : Type 0 where
  pub plans : List Instr
  pub blocks : AreBlocks (HasSoFar (columns_of [] b.stages) (length b.stages)) (book_pieces few b) [] plans
  pub is : instrs ≡ plans ++ halting b.last.vacate ∷ []
