-- What the lots before the place give.
use Rattle.std.proofs.Common.{◌≡◌, take}
use Rattle.sl_code_steps.proofs.drawing.LotLists.{lots_given}
use Rattle.sl_code_steps.proofs.lots.StageLot.named.Given as goal

abbrev pub invariant-loop-lot : goal.invariant-loop-lot
invariant-loop-lot l = l.stage ≡ lots_given l.returns l.name (take l.lot-index l.returns.lots)
