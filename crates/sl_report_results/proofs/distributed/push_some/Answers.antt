use Rattle.std.proofs.Common.{arith, inr}
use Rattle.sl_report_results.proofs.distributed.push_some.Goals as goal

pub returns : goal.returns
returns c = inr (c.in_ok-scoped.scoped, omega (arith, c.if-count-eq0.false), c.in_ok-push.ensures.items, c.in_ok-scoped.ensures)
