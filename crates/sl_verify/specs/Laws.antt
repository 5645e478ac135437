-- What the definitions of the verifier imply for pieces of code.
use Rattle.std.specs.Prelude.{◌≡◌, ◌↔◌, ℕ, ◌+◌, ◌≤◌, ◌&&◌, List, ◌++◌, length, Option, Some, None, slice_get, option_and_then, IsTrue}
use Rattle.sl_base_terms.specs.Tests.{first_failing}
use Rattle.sl_base_terms.specs.declared.shape.Shape.{Shape}
use Rattle.sl_code_instructions.specs.Codes.{CountingCode}
use Rattle.sl_code_instructions.specs.Standing.{HasAt}
use Rattle.sl_code_instructions.specs.declared.instr.Instr.{Instr}
use Rattle.sl_code_instructions.specs.declared.kinds.Kinds.{Kinds}
use Rattle.sl_code_semantics.specs.declared.known.TheConstants.{REGISTERS}
use Rattle.sl_code_semantics.specs.declared.known.TheConstants.{LAST_CLAUSE}
use Rattle.sl_code_semantics.specs.Kinds.{start_kinds, implies}
use Rattle.sl_code_semantics.specs.Needs.{Context}
use Rattle.sl_code_semantics.specs.WellKinded.{declared_by, context_of, has_stage_slots, IsWellKinded}
use Rattle.sl_code_semantics.specs.Pieces.{comes_after, are_passed, declared_in, piece_context, IsWithin}
use Rattle.sl_code_semantics.specs.Faults.{pass_tests}

abbrev pub Limits : Type 0
Limits = (REGISTERS ≡ 16) × (LAST_CLAUSE ≡ 255)

-- ---- a list after another

abbrev pub ComesInRow : Type 0
ComesInRow = (comes : Option Kinds) (a b : List Instr) → comes_after comes (a ++ b) ≡ comes_after (comes_after comes a) b

abbrev pub PassedInRow : Type 0
PassedInRow = (x : Context) (comes : Option Kinds) (a b : List Instr)
    → are_passed x comes (a ++ b) ≡ (are_passed x comes a && are_passed x (comes_after comes a) b)

abbrev pub TestsInRow : Type 0
TestsInRow = (code : CountingCode) (p : ℕ) (comes : Option Kinds) (a b : List Instr)
    → pass_tests code p comes (a ++ b) ≡ pass_tests code p comes a ++ pass_tests code (p + length a) (comes_after comes a) b

-- ---- what passes, and what is well kinded

abbrev pub PassedTests : Type 0
PassedTests = (code : CountingCode) (p : ℕ) (comes : Option Kinds) (is : List Instr)
    → (first_failing (pass_tests code p comes is) ≡ None) ↔ IsTrue (are_passed (context_of code) comes is)

-- the stages' slots are there, each instruction passes, and nothing comes after the last one
abbrev pub KindedByPass : Type 0
KindedByPass = (code : CountingCode) → IsWellKinded code
    ↔ (IsTrue (has_stage_slots code) × IsTrue (are_passed (context_of code) (Some start_kinds) code.instrs)
    × (comes_after (Some start_kinds) code.instrs ≡ None))

-- ---- a piece in a code

-- what passes in one context passes in each one that has more
abbrev pub PassedWithin : Type 0
PassedWithin = (x y : Context) (comes : Option Kinds) (is : List Instr) → IsWithin x y → IsTrue (are_passed x comes is) → IsTrue (are_passed y comes is)

-- the context of a piece is within that of each code where it stands, and which has the slots and the stages
abbrev pub PieceWithin : Type 0
PieceWithin = (code : CountingCode) (at : ℕ) (is : List Instr) (slots : ℕ → Option Shape) (stages : ℕ) → HasAt code at is
    → ((k : ℕ) (s : Shape) → slots k ≡ Some s → slice_get code.slots k ≡ Some s) → stages ≤ length code.stages
    → IsWithin (piece_context slots stages at is) (context_of code)

-- the context of a piece declares what its own instructions do, by how far they are from its first place
abbrev pub DeclaredFromFirst : Type 0
DeclaredFromFirst = (at n : ℕ) (is : List Instr) → declared_in at is (at + n) ≡ option_and_then declared_by (slice_get is n)

-- an `at` that declares nothing asks for nothing
abbrev pub NothingAsked : Type 0
NothingAsked = (k : Kinds) → IsTrue (implies k start_kinds)
