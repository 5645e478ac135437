use Rattle.std.proofs.Common.{filter, map, ◌≡◌}
use Rattle.std.specs.List.{range_with_len}
use Rattle.sl_report_forms.specs.Tables.{table_of, with_rows}
use Rattle.sl_report_tables.specs.Compare.{has_seats, list_seats_row}
use Rattle.sl_report_tables.proofs.lists_compared.push_lists.Given as goal

abbrev pub invariant-loop-party : goal.invariant-loop-party
invariant-loop-party l =
    table_of l.sheet
    ≡ with_rows (table_of l.initial.sheet) (map (list_seats_row l.books l.land) (filter (has_seats l.returns l.books l.land) (range_with_len 0 l.party)))
