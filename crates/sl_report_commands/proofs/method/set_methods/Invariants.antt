use Rattle.std.proofs.Common.{◌≡◌, ◌++◌, drop, map, take}
use Rattle.sl_law_meaning.specs.book.Trees.{stage_of}
use Rattle.sl_report_commands.specs.Methods.{stage_by_method}
use Rattle.sl_report_commands.proofs.method.set_methods.Given as goal

-- those before have the method, and the others are as they were
abbrev pub invariant-loop-number : goal.invariant-loop-number
invariant-loop-number l =
    let all = map stage_of l.fn.stages in
    map stage_of l.stages ≡ map (stage_by_method l.by) (take l.number all) ++ drop l.number all
