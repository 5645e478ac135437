use Rattle.std.proofs.Common.{◌≡◌, ◌≤◌, Some, [], map, length, arith, rules, add-one}
use Rattle.sl_law_meaning.specs.book.Trees.{stage_of}
use Rattle.sl_base_terms.specs.Tests.{first_failing}
use Rattle.sl_law_meaning.specs.book.Typing.{stages_tests}
use Rattle.sl_check.proofs.Within.{parts_within, stages_within}
use Rattle.sl_check.proofs.Walking.{stage_fails, stage_passes}
use Rattle.sl_check.proofs.stages.stage_types.Goals as goal

pub stage_type-requires : goal.stage_type-requires
stage_type-requires c = parts_within c.args.stages.now c.loop-i.i c.index-stages-i.result c.requires c.loop-i-test.true c.index-stages-i.is

pub returns-in_err-types : goal.returns-in_err-types
returns-in_err-types c =
    let fails : first_failing (stages_tests [] (map stage_of c.args.stages.now)) ≡ Some c.in_err-types.field-0.0 =
    stage_fails c.args.stages.now c.loop-i.types c.loop-i.i c.index-stages-i.result _ c.loop-i.invariant c.loop-i-test.true c.index-stages-i.is c.in_err-types.ensures in
    search rules

pub loop-i-preserved : goal.loop-i-preserved
loop-i-preserved c =
    let room : length c.args.stages.now ≤ length c.loop-i.types = omega (arith, stages_within c.args.stages.now c.requires) in
    rw add-one (stage_passes c.args.stages.now c.loop-i.types c.loop-i.i c.index-stages-i.result c.in_ok-types.field-0
    c.loop-i.invariant c.loop-i-test.true room c.index-stages-i.is c.in_ok-types.ensures.0 c.in_ok-types.ensures.1)
