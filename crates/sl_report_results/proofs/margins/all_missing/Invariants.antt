use Rattle.std.proofs.Common.{◌≡◌, ◌<◌, ℕ, None, length}
use Rattle.std.specs.Prelude.{slice_index_or}
use Rattle.sl_law_margins.specs.MissingVotes.{AreMissing}
use Rattle.sl_report_results.proofs.margins.all_missing.Given as goal

abbrev pub invariant-loop-entry : goal.invariant-loop-entry
invariant-loop-entry l = record {
  long : length l.missing.items ≡ l.entry;
  missing : (k : ℕ) → k < l.entry → AreMissing l.method l.weights l.seats k (slice_index_or l.missing.items k None);
}
