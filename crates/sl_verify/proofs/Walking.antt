-- The pass over the instructions: what is left of the tests at each place.
use Rattle.std.proofs.Common.{◌≡◌, ℕ, suc, ◌<◌, ◌≤◌, List, [], Option, Some, None, length, drop, get_or, ◌∙◌, sym, ap, refl}
use Rattle.std.proofs.Math.Seq.{drop-cons}
use Rattle.std.proofs.lemmas.List.{drop_all}
use Rattle.std.specs.Option.{option_or}
use Rattle.sl_code_instructions.specs.Codes.{CountingCode}
use Rattle.sl_code_instructions.specs.declared.instr.Instr.{Instr}
use Rattle.sl_code_instructions.specs.declared.kinds.Kinds.{Kinds}
use Rattle.sl_code_semantics.specs.declared.fault.VerifyFault.{VerifyFault}
use Rattle.sl_code_semantics.specs.Kinds.{start_kinds}
use Rattle.sl_code_semantics.specs.Pieces.{comes_next, comes_after}
use Rattle.sl_base_terms.specs.Tests.{first_failing}
use Rattle.sl_code_semantics.specs.Faults.{instr_tests, pass_tests}
use Rattle.sl_base_terms.proofs.Tests.{fails_in_row}

-- the tests before place p hold, and these kinds reach it: the first test that fails is one of the rest
pub record Passed (code : CountingCode) (is : List Instr) (p : ℕ) (comes : Option Kinds) : Type 0 where
  pub rest : first_failing (pass_tests code 0 (Some start_kinds) is) ≡ first_failing (pass_tests code p comes (drop p is))
  pub after : comes_after (Some start_kinds) is ≡ comes_after comes (drop p is)

module _ (code : CountingCode) (is : List Instr) (p : ℕ) (comes : Option Kinds) (i d : Instr) (lt : p < length is) (here : i ≡ get_or is p d) where
  -- the tests of the rest are those of the instruction that comes next, and of those after it
  tests_here : first_failing (pass_tests code p comes (drop p is))
      ≡ option_or (first_failing (instr_tests code p comes i)) (first_failing (pass_tests code (suc p) (comes_next comes i) (drop (suc p) is)))
  tests_here =
      let next = rw (← here) at (drop-cons is p d lt) in
      ap (λ rest. first_failing (pass_tests code p comes rest)) next
      ∙ fails_in_row (instr_tests code p comes i) (pass_tests code (suc p) (comes_next comes i) (drop (suc p) is))

  comes_here : comes_after comes (drop p is) ≡ comes_after (comes_next comes i) (drop (suc p) is)
  comes_here =
      let next = rw (← here) at (drop-cons is p d lt) in
      ap (comes_after comes) next

  -- an instruction that fails a test is the first to fail one
  pub instr_fails : (f : VerifyFault) → Passed code is p comes → first_failing (instr_tests code p comes i) ≡ Some f
      → first_failing (pass_tests code 0 (Some start_kinds) is) ≡ Some f
  instr_fails f passed fails = passed.rest ∙ tests_here ∙ rw fails refl

  -- one that passes leaves its kinds to the next
  pub instr_passes : (next : Option Kinds) → Passed code is p comes → first_failing (instr_tests code p comes i) ≡ None → next ≡ comes_next comes i
      → Passed code is (suc p) next
  instr_passes next passed passes is_next = record {
    rest = passed.rest ∙ tests_here ∙ rw (passes, is_next) refl;
    after = passed.after ∙ comes_here ∙ rw is_next refl;
  }

-- after the last one no test is left
pub all_passed : (code : CountingCode) (is : List Instr) (p : ℕ) (comes : Option Kinds) → length is ≤ p → Passed code is p comes
    → (first_failing (pass_tests code 0 (Some start_kinds) is) ≡ None) × (comes ≡ comes_after (Some start_kinds) is)
all_passed code is p comes le passed =
    let none : drop p is ≡ [] = drop_all p is le in
    (passed.rest ∙ ap (λ rest. first_failing (pass_tests code p comes rest)) none, sym (passed.after ∙ ap (comes_after comes) none))
