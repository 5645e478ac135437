-- The lines of the warnings up to a place are written.
use Rattle.std.proofs.Common.{◌≡◌}
use Rattle.std.specs.List.{flat_map, range_with_len}
use Rattle.sl_report_warnings.specs.Heads.{line_at}
use Rattle.sl_report_warnings.proofs.sentences.written.Given as goal

abbrev pub invariant-loop-number : goal.invariant-loop-number
invariant-loop-number l = l.text.items ≡ flat_map (line_at l.language l.returns l.warnings) (range_with_len 0 l.number)
