-- What keeps a code from being well kinded: each test in its order, and the fault that it gives (docs/verifier.md, section 4).
use Rattle.std.specs.Prelude.{ℕ, suc, ◌-◌, false, List, [], ◌∷◌, ◌++◌, length, Option, Some, None}
use Rattle.sl_base_terms.specs.Tests.{Test, test, first_failing}
use Rattle.sl_code_instructions.specs.Codes.{CountingCode}
use Rattle.sl_code_instructions.specs.Rows.{target_of}
use Rattle.sl_code_instructions.specs.declared.instr.Instr.{Instr}
use Rattle.sl_code_instructions.specs.declared.kinds.Kinds.{Kinds}
use Rattle.sl_code_semantics.specs.declared.fault.VerifyFault.{VerifyFault}
use Rattle.sl_code_semantics.specs.declared.fault.VerifyFault.TheVariants as fault
use Rattle.sl_code_semantics.specs.Kinds.{start_kinds, implies}
use Rattle.sl_code_semantics.specs.Needs.{has_registers, has_columns, has_kinds, has_table}
use Rattle.sl_code_semantics.specs.Leaves.{carried}
use Rattle.sl_code_semantics.specs.WellKinded.{declared_by, declared_at, context_of, has_stage_slots}
use Rattle.sl_code_semantics.specs.Pieces.{kinds_here, comes_next, comes_after}

-- ---- an instruction

-- what comes to place p implies what is declared there, if anything is; something comes where nothing is declared.
-- Meet names the instruction before, and at the start the first
abbrev pub coming_tests : ℕ → Option Kinds → Option Kinds → List (Test VerifyFault)
coming_tests p None None = test false (fault.Meet p) ∷ []
coming_tests p None (Some d) = []
coming_tests p (Some c) None = []
coming_tests p (Some c) (Some d) = test (implies c d) (fault.Meet (p - 1)) ∷ []

abbrev pub need_tests : CountingCode → ℕ → Kinds → Instr → List (Test VerifyFault)
need_tests code p k i =
    test (has_registers i) (fault.Register p)
    ∷ test (has_columns (context_of code) i) (fault.Slot p)
    ∷ test (has_kinds (context_of code) k i) (fault.Kind p)
    ∷ test (has_table k i) (fault.TableKind p) ∷ []

-- a jump at place p leads to what is declared at its target
abbrev pub landing_tests : ℕ → Kinds → Option Kinds → List (Test VerifyFault)
landing_tests p k None = test false (fault.Jump p) ∷ []
landing_tests p k (Some d) = test (implies k d) (fault.Meet p) ∷ []

abbrev pub jump_tests : CountingCode → ℕ → Kinds → Option ℕ → List (Test VerifyFault)
jump_tests code p k None = []
jump_tests code p k (Some t) = landing_tests p k (declared_at code t)

-- the tests of an instruction at place p with these kinds
abbrev pub own_tests : CountingCode → ℕ → Kinds → Instr → List (Test VerifyFault)
own_tests code p k i = need_tests code p k i ++ jump_tests code p (carried k i) (target_of i)

-- the tests of an instruction to which these kinds come
abbrev pub instr_tests : CountingCode → ℕ → Option Kinds → Instr → List (Test VerifyFault)
instr_tests code p comes i = coming_tests p comes (declared_by i) ++ own_tests code p (kinds_here comes (declared_by i)) i

-- ---- a code

-- the tests of the instructions from place p on, where these kinds reach the first of them
abbrev pub pass_tests : CountingCode → ℕ → Option Kinds → List Instr → List (Test VerifyFault)
pass_tests code p comes [] = []
pass_tests code p comes (i ∷ is) = instr_tests code p comes i ++ pass_tests code (suc p) (comes_next comes i) is

-- nothing reaches place p, after the last instruction; RunsOff names the instruction before, and at the start the first
abbrev pub end_tests : ℕ → Option Kinds → List (Test VerifyFault)
end_tests p None = []
end_tests p (Some c) = test false (fault.RunsOff (p - 1)) ∷ []

abbrev pub verify_tests : CountingCode → List (Test VerifyFault)
verify_tests code =
    test (has_stage_slots code) (fault.Slot 0)
    ∷ (pass_tests code 0 (Some start_kinds) code.instrs ++ end_tests (length code.instrs) (comes_after (Some start_kinds) code.instrs))

-- the fault of a code
abbrev pub verify_fault : CountingCode → Option VerifyFault
verify_fault code = first_failing (verify_tests code)
