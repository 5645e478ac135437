use Rattle.std.proofs.Common.{◌≡◌, Some, rules}
use Rattle.sl_code_instructions.specs.Rows.{target_of}
use Rattle.sl_code_semantics.specs.Leaves.{carried}
use Rattle.sl_base_terms.specs.Tests.{first_failing}
use Rattle.sl_code_semantics.specs.Faults.{need_tests, jump_tests, own_tests}
use Rattle.sl_base_terms.proofs.Tests.{fails_first}
use Rattle.sl_code_semantics.proofs.kinds.Passing.{judges_behind}
use Rattle.sl_verify.proofs.pass.check_own.Goals as goal

pub returns-in_err-check_needs-clause-tests : goal.returns-in_err-check_needs-clause-tests
returns-in_err-check_needs-clause-tests c =
    let needs = need_tests c.args.code.now c.args.place c.args.kinds c.args.instr in
    let jump = jump_tests c.args.code.now c.args.place (carried c.args.kinds c.args.instr) (target_of c.args.instr) in
    let fails : first_failing (own_tests c.args.code.now c.args.place c.args.kinds c.args.instr) ≡ Some c.in_err-check_needs.field-0.0 =
    fails_first needs jump c.in_err-check_needs.field-0.0 c.in_err-check_needs.ensures.tests in
    search rules

pub returns-clause-tests : goal.returns-clause-tests
returns-clause-tests c =
    let needs = need_tests c.args.code.now c.args.place c.args.kinds c.args.instr in
    let jump = jump_tests c.args.code.now c.args.place (carried c.args.kinds c.args.instr) (target_of c.args.instr) in
    judges_behind needs jump c.check_jump.result c.in_ok-check_needs.ensures.tests.0 (rw (c.carried.ensures, c.target.ensures) at c.check_jump.ensures)
