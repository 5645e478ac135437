use Rattle.sl_count_calls.proofs.CountTexts.{column_there}
use Rattle.sl_count_calls.proofs.report.Report.text.Goals as goal

pub returns-in-Stage : goal.returns-in-Stage
returns-in-Stage c =
    rw c.in-Stage.is
    (column_there (λ v. v.items) c.args.returns.now c.args.counted.now.columns.items c.in-Stage.stage c.index-column.result.now c.index-column.result.now c.column_text.result
    (rw c.in-Stage.is at c.requires.asked) c.index-column.ensures (rw c.as_slice.ensures.value at c.column_text.ensures))
