use Rattle.std.proofs.Common.{◌≡◌, ◌<◌, ℕ, None, length}
use Rattle.std.specs.Prelude.{slice_index_or}
use Rattle.sl_report_results.specs.Lots.{IsMark}
use Rattle.sl_report_results.proofs.lots.marks_of.Given as goal

abbrev pub invariant-loop-entry : goal.invariant-loop-entry
invariant-loop-entry l = record {
  long : length l.marks.items ≡ l.entry;
  marked : (k : ℕ) → k < l.entry → IsMark l.drawn l.last l.next k (slice_index_or l.marks.items k None);
}
