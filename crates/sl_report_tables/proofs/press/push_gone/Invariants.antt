use Rattle.std.proofs.Common.{map, take, ◌≡◌}
use Rattle.sl_report_forms.specs.Tables.{table_of, with_rows}
use Rattle.sl_report_tables.specs.Press.{gone_row}
use Rattle.sl_report_tables.proofs.press.push_gone.Given as goal

abbrev pub invariant-loop-party : goal.invariant-loop-party
invariant-loop-party l = table_of l.sheet ≡ with_rows (table_of l.initial.sheet) (map gone_row (take l.party-index l.party-items))
