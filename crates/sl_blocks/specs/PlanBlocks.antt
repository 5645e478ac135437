-- Blocks of plans: each does what its plan says, in the plan's cost (docs/blocks.md, section 7). A compiler builds on them.
use Rattle.std.specs.Prelude.{◌≡◌, ℕ, ◌+◌, ◌≤◌, List, [], ◌∷◌, length, Some, slice_get}
use Rattle.sl_law_meaning.specs.declared.book.Axis.{Axis}
use Rattle.sl_base_terms.specs.declared.shape.Shape.{Shape}
use Rattle.sl_code_instructions.specs.declared.code.TheConstants.{MAX_INSTRS}
use Rattle.sl_code_instructions.specs.declared.instr.Instr.{Instr}
use Rattle.sl_code_instructions.specs.Codes.{CountingCode}
use Rattle.sl_compile_plans.specs.Trees.{Tree, size_of}
use Rattle.sl_compile_plans.specs.Meaning.{Course, Onward, Final, Unsaid, does, cost}
use Rattle.sl_compile_plans.specs.Laid.{size_all}
use Rattle.sl_compile_pieces.specs.columns.Trees.{summed}
use Rattle.sl_blocks.specs.declared.blocks.TheConstants.{MAX_BLOCK_INSTRS}
use Rattle.sl_blocks.specs.Blocks.{IsBlock}

-- ---- one block

-- something is said of the course
abbrev pub IsSaid : Course → Type 0
IsSaid (Onward s) = Unit {0}
IsSaid (Final x) = Unit {0}
IsSaid Unsaid = ⊥

-- where something is said of the plan, the block reaches the state that the plan says, or its end
abbrev pub IsPlanBlock : (CountingCode → Type 0) → Tree → List Instr → List Instr → Type 0
IsPlanBlock Stands tree before after =
    IsBlock (λ e. cost e tree + 1) (size_of tree + 1) Stands (λ code e s. IsSaid (does code e tree s)) (λ code e s t. does code e tree s ≡ Onward t)
    (λ code e s x. does code e tree s ≡ Final x) before after

-- ---- blocks one after the other

abbrev pub InRow : (CountingCode → Type 0) → List Tree → List Instr → List Instr → Type 0
InRow Stands [] before after = after ≡ before
InRow Stands (t ∷ ts) before after = (mid : List Instr) × IsPlanBlock Stands t before mid × InRow Stands ts mid after

-- the code after is the code before with the blocks of these plans after it
pub record AreBlocks (Stands : CountingCode → Type 0) (ts : List Tree) (before after : List Instr) : Type 0 where
  pub row : InRow Stands ts before after

-- so many instructions may stand after a code that these plans have room
abbrev pub HasRoom : List Tree → List Instr → Type 0
HasRoom ts before = length before + size_all ts + MAX_BLOCK_INSTRS ≤ MAX_INSTRS

-- ---- what a code has for them

-- a copy: both columns are there, of that shape
pub record HasCopy (s : Shape) (from to : ℕ) (code : CountingCode) : Type 0 where
  pub from_there : slice_get code.slots from ≡ Some s
  pub to_there : slice_get code.slots to ≡ Some s

-- a pair of columns
pub record HasPair (s : Shape) (left right to : ℕ) (code : CountingCode) : Type 0 where
  pub left_there : slice_get code.slots left ≡ Some s
  pub right_there : slice_get code.slots right ≡ Some s
  pub to_there : slice_get code.slots to ≡ Some s

-- a sum
pub record HasSum (over : Axis) (s : Shape) (from to : ℕ) (code : CountingCode) : Type 0 where
  pub from_there : slice_get code.slots from ≡ Some s
  pub to_there : slice_get code.slots to ≡ Some (summed over)
