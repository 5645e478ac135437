use Rattle.std.proofs.Common.{ap, ◌∙◌}
use Rattle.std.specs.Prelude.{sum_by}
use Rattle.sl_report_parties.specs.Sums.{capped}
use Rattle.sl_report_tables.proofs.LocalSeats.{local_cell}
use Rattle.sl_report_tables.specs.Compare.{seats_at}
use Rattle.sl_report_tables.proofs.lists_compared.seats_cell.Goals as goal

pub returns-in-Some : goal.returns-in-Some
returns-in-Some c =
    let x = c.args.local.now in
    local_cell x.land c.args.party c.list_seats.result x.judged.now.counted c.in-Some.field-0 x.judged.now.fault c.in-Some.is
    (c.list_seats.ensures ∙ ap (λ lines. capped (sum_by (seats_at x.land c.args.party) lines)) x.kept)
