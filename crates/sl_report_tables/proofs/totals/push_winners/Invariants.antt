use Rattle.std.proofs.Common.{filter, map, nat_lt, ◌≡◌}
use Rattle.std.specs.List.{range_with_len}
use Rattle.sl_report_forms.specs.Tables.{table_of, with_rows}
use Rattle.sl_report_tables.specs.Totals.{won_at, won_row}
use Rattle.sl_report_tables.proofs.totals.push_winners.Given as goal

abbrev pub invariant-loop-party : goal.invariant-loop-party
invariant-loop-party l =
    table_of l.sheet
    ≡ with_rows (table_of l.initial.sheet) (map (won_row l.counts.returns.now l.land) (filter (λ party. nat_lt 0 (won_at l.counts.returns.now l.land party)) (range_with_len 0 l.party)))
