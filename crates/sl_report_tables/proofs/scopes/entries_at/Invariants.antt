use Rattle.std.proofs.Common.{take, ◌≡◌}
use Rattle.sl_report_tables.specs.Scopes.{entries_at}
use Rattle.sl_report_tables.proofs.scopes.entries_at.Given as goal

abbrev pub invariant-loop-number : goal.invariant-loop-number
invariant-loop-number l = l.found.items ≡ entries_at l.scoped (take l.number-index l.numbers)
