use Rattle.std.proofs.Common.{rules}
use Rattle.sl_report_results.proofs.lots.mark_of.Goals as goal

pub returns-else-is_among-2 : goal.returns-else-is_among-2
returns-else-is_among-2 c = rw c.if-not-drawn.false (search rules)

pub returns-then-is_among-2 : goal.returns-then-is_among-2
returns-then-is_among-2 c = rw c.if-not-drawn.false (search rules)

pub returns-then-is_among : goal.returns-then-is_among
returns-then-is_among c = rw c.if-not-drawn.false (search rules)
