use Rattle.std.proofs.Common.{ap, ◌∙◌}
use Rattle.std.specs.Prelude.{nat_lt, sum_by}
use Rattle.sl_report_parties.specs.Sums.{capped}
use Rattle.sl_report_tables.proofs.LocalSeats.{local_seats}
use Rattle.sl_report_tables.specs.Compare.{seats_at}
use Rattle.sl_report_tables.proofs.lists_compared.gives_seats.Goals as goal

pub returns : goal.returns
returns c =
    let x = c.args.local.now in
    ap (nat_lt 0) (c.list_seats.ensures ∙ ap (λ lines. capped (sum_by (seats_at x.land c.args.party) lines)) x.kept ∙ local_seats x.land c.args.party x.judged.now.counted)
