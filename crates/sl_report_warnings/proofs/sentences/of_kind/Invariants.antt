use Rattle.std.proofs.Common.{count_by, take, ◌≡◌, ◌≤◌}
use Rattle.sl_report_warnings.specs.Heads.{are_of_kind}
use Rattle.sl_report_warnings.proofs.sentences.of_kind.Given as goal

abbrev pub invariant-loop-other : goal.invariant-loop-other
invariant-loop-other l = record {
  found : l.found ≡ count_by (are_of_kind l.warning) (take l.other-index l.warnings);
  few : l.found ≤ l.other-index;
}
