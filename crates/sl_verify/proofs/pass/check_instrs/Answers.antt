use Rattle.std.proofs.Common.{◌≡◌, Some, rules, refl, add-one}
use Rattle.sl_code_semantics.specs.Kinds.{start_kinds}
use Rattle.sl_base_terms.specs.Tests.{first_failing}
use Rattle.sl_code_semantics.specs.Faults.{pass_tests}
use Rattle.sl_verify.proofs.Walking.{instr_fails, instr_passes}
use Rattle.sl_verify.proofs.pass.check_instrs.Goals as goal

pub returns-in_err-comes : goal.returns-in_err-comes
returns-in_err-comes c =
    let code = c.args.code.now in
    let fails = instr_fails code c.instrs-instrs.result.now c.loop-place.place c.loop-place.comes _ _ c.loop-place-test.true refl
    c.in_err-comes.field-0.0 c.loop-place.invariant c.in_err-comes.ensures in
    let whole : first_failing (pass_tests code 0 (Some start_kinds) code.instrs) ≡ Some c.in_err-comes.field-0.0 =
    rw c.instrs-instrs.ensures.instrs at fails in
    search rules

pub loop-place-preserved : goal.loop-place-preserved
loop-place-preserved c =
    rw add-one (instr_passes c.args.code.now c.instrs-instrs.result.now c.loop-place.place c.loop-place.comes _ _ c.loop-place-test.true refl
    c.in_ok-comes.comes c.loop-place.invariant c.in_ok-comes.ensures.0 c.in_ok-comes.ensures.1)
