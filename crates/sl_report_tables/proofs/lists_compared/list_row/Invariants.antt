use Rattle.std.proofs.Common.{map, take, ◌++◌, ◌≡◌}
use Rattle.sl_report_forms.specs.Tables.{contents_of}
use Rattle.sl_report_tables.specs.Compare.{list_seats_cell}
use Rattle.sl_report_tables.proofs.lists_compared.list_row.Given as goal

abbrev pub invariant-loop-local : goal.invariant-loop-local
invariant-loop-local l =
    contents_of l.row.items ≡ contents_of l.initial.row.items ++ map (λ x. list_seats_cell x.land l.party x.judged.now) (take l.local-index l.locals)
