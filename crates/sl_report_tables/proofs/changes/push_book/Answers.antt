use Rattle.std.proofs.Common.{Some, rules, ◌∙◌}
use Rattle.std.specs.List.{range_with_len}
use Rattle.sl_report_tables.specs.Compare.{seats_row}
use Rattle.sl_report_tables.proofs.MoreRows.{rows_compared, rows_mapped}
use Rattle.sl_report_tables.proofs.changes.push_book.Goals as goal

pub loop-party-preserved : goal.loop-party-preserved
loop-party-preserved c =
    rows_mapped (λ n. seats_row c.args.returns.now c.args.first.now.judged.now c.args.book.now.judged.now (Some n)) c.loop-party.party _ _ _ c.loop-party.invariant (rw c.in_ok-each_row-2.ensures at c.in_ok-push-2.ensures)

pub returns : goal.returns
returns c =
    rows_compared (seats_row c.args.returns.now c.args.first.now.judged.now c.args.book.now.judged.now) (range_with_len 0 c.loop-party.party) _ _ _ (rw c.in_ok-each_row.ensures at c.in_ok-push.ensures) c.loop-party.invariant ∙ search rules
