use Rattle.std.proofs.Common.{take, ◌≡◌}
use Rattle.std.specs.Prelude.{sum_by}
use Rattle.sl_report_parties.specs.Sums.{capped}
use Rattle.sl_report_tables.specs.Compare.{seats_at}
use Rattle.sl_report_tables.proofs.lists_compared.list_seats.Given as goal

abbrev pub invariant-loop-line : goal.invariant-loop-line
invariant-loop-line l = l.seats ≡ capped (sum_by (seats_at l.local.land l.party) (take l.line-index l.local.lines.items))
