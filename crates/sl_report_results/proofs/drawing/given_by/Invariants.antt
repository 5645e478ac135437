use Rattle.std.proofs.Common.{◌≡◌, take}
use Rattle.sl_report_results.specs.inner.Drawn.{given_by}
use Rattle.sl_report_results.proofs.drawing.given_by.Given as goal

abbrev pub invariant-loop-lot : goal.invariant-loop-lot
invariant-loop-lot l = l.given.items ≡ given_by l.name l.votes (take l.lot-index l.returns.lots)
