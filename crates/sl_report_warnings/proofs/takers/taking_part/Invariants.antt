use Rattle.std.proofs.Common.{filter, ◌≡◌}
use Rattle.std.specs.List.{range_with_len}
use Rattle.sl_law_meaning.specs.returns.Facts.{is_eligible}
use Rattle.sl_report_warnings.proofs.takers.taking_part.Given as goal

abbrev pub invariant-loop-party : goal.invariant-loop-party
invariant-loop-party l = l.found.items ≡ filter (is_eligible l.book.eligible.items l.returns) (range_with_len 0 l.party)
