use Rattle.std.proofs.Common.{◌≡◌, ◌<◌, ℕ, false, get_or}
use Rattle.std.specs.Str.{bytes_eq}
use Rattle.sl_law_meaning.specs.declared.book.Stage.{Stage}
use Rattle.sl_report_results.proofs.columns.number_of.Given as goal

abbrev pub invariant-loop-number : goal.invariant-loop-number
invariant-loop-number l = (k : ℕ) (d : Stage) → k < l.number → bytes_eq l.name (get_or l.stages k d).name ≡ false
