use Rattle.std.proofs.Common.{false, take, ◌≡◌}
use Rattle.std.specs.List.{list_any}
use Rattle.sl_report_warnings.specs.Warnings.{is_threshold}
use Rattle.sl_report_warnings.proofs.book.has_threshold.Given as goal

abbrev pub invariant-loop-cond : goal.invariant-loop-cond
invariant-loop-cond l = list_any is_threshold (take l.cond-index l.conditions) ≡ false
