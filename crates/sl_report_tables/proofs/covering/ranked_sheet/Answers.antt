use Rattle.std.proofs.Common.{map}
use Rattle.std.proofs.lemmas.Option.{slice_get-get_or}
use Rattle.sl_report_tables.specs.Parties.{ranked_row}
use Rattle.sl_report_tables.proofs.MoreRows.{rows_end, rows_next}
use Rattle.sl_report_tables.proofs.covering.ranked_sheet.Goals as goal

pub loop-winner-preserved : goal.loop-winner-preserved
loop-winner-preserved c =
    rows_next ranked_row c.args.winners.now c.loop-winner.winner-index _ _ _ _ (slice_get-get_or c.args.winners.now c.loop-winner.winner-index _ c.loop-winner-test.true) c.loop-winner.invariant (rw c.in_ok-winner_row.ensures at c.in_ok-push.ensures)

pub returns : goal.returns
returns c = rows_end (map ranked_row) c.args.winners.now c.loop-winner.winner-index _ _ _ c.loop-winner-test.false c.in_ok-sheet.ensures c.loop-winner.invariant
