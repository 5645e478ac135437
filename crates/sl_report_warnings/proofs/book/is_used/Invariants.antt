use Rattle.std.proofs.Common.{[], false, map, take, ◌≡◌, ◌∷◌}
use Rattle.std.specs.List.{list_any}
use Rattle.sl_check.specs.Names.{names_one_of}
use Rattle.sl_law_meaning.specs.book.Trees.{stage_of}
use Rattle.sl_report_warnings.proofs.book.is_used.Given as goal

abbrev pub invariant-loop-stage : goal.invariant-loop-stage
invariant-loop-stage l = list_any (λ s. names_one_of (l.name ∷ []) s.expr) (map stage_of (take l.stage-index l.stages)) ≡ false
