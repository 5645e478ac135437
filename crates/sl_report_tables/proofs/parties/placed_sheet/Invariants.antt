use Rattle.std.proofs.Common.{filter, map, take, ◌≡◌}
use Rattle.std.specs.List.{enumerate_from, zip}
use Rattle.sl_report_forms.specs.Tables.{table_of, with_rows}
use Rattle.sl_report_tables.specs.Parties.{has_place, winner_row}
use Rattle.sl_report_tables.proofs.parties.placed_sheet.Given as goal

abbrev pub invariant-loop-number : goal.invariant-loop-number
invariant-loop-number l =
    table_of l.sheet ≡ with_rows (table_of l.initial.sheet) (map (λ x. winner_row x.0) (filter (λ x. has_place l.wanted x.1) (take l.number (zip (enumerate_from 0 l.returns.wins) l.placed))))
