-- What a block of counting code is: it stands after the code before it, passes the verifier's tests wherever its slots and its stage are, and
-- does in its time what it is asked for (docs/blocks.md, section 5).
use Rattle.std.specs.Prelude.{◌≡◌, ℕ, ◌≤◌, true, List, ◌∷◌, ◌++◌, All, Option, Some, length, slice_get}
use Rattle.sl_base_terms.specs.declared.shape.Shape.{Shape}
use Rattle.sl_law_meaning.specs.returns.Election.{Election, IsElection}
use Rattle.sl_code_instructions.specs.declared.code.TheConstants.{MAX_INSTRS}
use Rattle.sl_code_instructions.specs.declared.instr.Instr.{Instr}
use Rattle.sl_code_instructions.specs.declared.instr.Instr.TheVariants.{At}
use Rattle.sl_code_instructions.specs.declared.kinds.Kinds.{Kinds}
use Rattle.sl_code_instructions.specs.Codes.{CountingCode}
use Rattle.sl_code_instructions.specs.Proper.{IsInRange}
use Rattle.sl_code_instructions.specs.Standing.{HasAt}
use Rattle.sl_code_semantics.specs.Kinds.{start_kinds}
use Rattle.sl_code_semantics.specs.Pieces.{comes_after, are_passed, JumpsWithin}
use Rattle.sl_code_semantics.specs.WellKinded.{context_of}
use Rattle.sl_code_semantics.specs.State.{State, End}
use Rattle.sl_code_semantics.specs.Runs.{share_of}
use Rattle.sl_compile_plans.specs.Achieves.{Reaches}
use Rattle.sl_blocks.specs.declared.blocks.TheConstants.{MAX_BLOCK_INSTRS}

-- each of these slots is one of the code's, with its shape
abbrev pub HasSlotsOf : List Shape → CountingCode → Type 0
HasSlotsOf shapes code = (slot : ℕ) (s : Shape) → slice_get shapes slot ≡ Some s → slice_get code.slots slot ≡ Some s

-- where these kinds reach them the instructions pass the verifier's tests, and some kinds reach the place after
pub record PassesOn (code : CountingCode) (comes : Option Kinds) (is : List Instr) : Type 0 where
  pub passed : are_passed (context_of code) comes is ≡ true
  pub kinds : Kinds
  pub leaves : comes_after comes is ≡ Some kinds

-- the block takes so many steps, and has so many instructions at most. `Stands` is what a code has for the block to stand there, `Begins` what
-- holds of a state where it begins, and `Does` and `Ends` are what then holds of the state that it comes to, or of the end of the run
pub record IsBlock (time : Election → ℕ) (most : ℕ) (Stands : CountingCode → Type 0) (Begins : CountingCode → Election → State → Type 0)
    (Does : CountingCode → Election → State → State → Type 0) (Ends : CountingCode → Election → State → End → Type 0) (before after : List Instr) : Type 0 where
  pub block : List Instr
  pub kept : after ≡ before ++ block
  pub begins : (rest : List Instr) × (block ≡ At start_kinds ∷ rest)
  pub short : length block ≤ most
  pub within : JumpsWithin (length before) block
  pub in_range : length after ≤ MAX_INSTRS → All IsInRange block
  pub passes : (code : CountingCode) → Stands code → HasAt code (length before) block → (comes : Option Kinds) → PassesOn code comes block
  pub runs : (code : CountingCode) (e : Election) (state : State) → Stands code → HasAt code (length before) block → IsElection e → Begins code e state →
      Reaches code e (time e) (length before) state (length after) (Does code e state) (Ends code e state)

-- a block that takes a share at most
abbrev pub IsShareBlock : (CountingCode → Type 0) → (CountingCode → Election → State → Type 0) → (CountingCode → Election → State → State → Type 0) →
    (CountingCode → Election → State → End → Type 0) → List Instr → List Instr → Type 0
IsShareBlock Stands Begins Does Ends before after = IsBlock share_of MAX_BLOCK_INSTRS Stands Begins Does Ends before after
