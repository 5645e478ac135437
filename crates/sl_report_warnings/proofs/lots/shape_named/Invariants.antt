-- The stage is not among those after it: it is the first of the rest.
use Rattle.std.proofs.Common.{drop, map, ◌≡◌}
use Rattle.sl_check.specs.inner.Known.{columns}
use Rattle.sl_law_meaning.specs.book.Trees.{stage_of}
use Rattle.sl_report_warnings.specs.Warnings.{shape_named}
use Rattle.sl_report_warnings.proofs.lots.shape_named.Given as goal

abbrev pub invariant-loop-stage : goal.invariant-loop-stage
invariant-loop-stage l =
    shape_named (columns l.known.stages.now l.known.types.now) l.name (map stage_of l.stages)
    ≡ shape_named (columns l.known.stages.now l.known.types.now) l.name (map stage_of (drop l.stage-index l.stages))
