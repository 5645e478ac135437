use Rattle.std.proofs.Common.{map, ◌≡◌}
use Rattle.std.specs.List.{range_with_len}
use Rattle.std.specs.Prelude.{option_map}
use Rattle.sl_report_forms.specs.Tables.{table_of, with_rows}
use Rattle.sl_report_tables.specs.Parties.{party_row}
use Rattle.sl_report_tables.proofs.parties.parties_sheet.Given as goal

abbrev pub invariant-loop-party : goal.invariant-loop-party
invariant-loop-party l =
    table_of l.sheet ≡ with_rows (table_of l.initial.sheet) (map (party_row l.setting.book.now.eligible.items l.setting.returns.now (option_map (λ t. t.now) l.table)) (range_with_len 0 l.party))
