-- The records that are taken are none of them refused.
use Rattle.sl_returns.proofs.Refusals.{others_are_taken}
use Rattle.sl_returns.proofs.laws.others_are_taken.Goals as goal

pub returns : goal.returns
returns c = others_are_taken
