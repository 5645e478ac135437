use Rattle.std.proofs.Common.{ap, map, ◌++◌, ◌∙◌}
use Rattle.std.proofs.lemmas.List.{take_all}
use Rattle.sl_report_forms.specs.Tables.{contents_of}
use Rattle.sl_report_tables.proofs.LocalSeats.{mapped_seen}
use Rattle.sl_report_tables.specs.Compare.{list_seats_cell}
use Rattle.sl_report_tables.proofs.lists_compared.list_row.Goals as goal

pub returns : goal.returns
returns c =
    let locals = c.args.locals.now in
    rw (c.in_ok-row.ensures.items, c.name.ensures, c.name-2.ensures) at (c.loop-local.invariant
    ∙ ap (λ ys. contents_of c.in_ok-row.row.items ++ ys) (
    ap (map (λ x. list_seats_cell x.land c.args.party x.judged.now)) (take_all c.loop-local.local-index locals c.loop-local-test.false)
    ∙ mapped_seen (λ x. list_seats_cell x.0 c.args.party x.1) c.args.land locals c.args.books.now c.requires))
