use Rattle.sl_ratio.proofs.LawProofs.{limits}
use Rattle.sl_ratio.proofs.laws.limits.Goals as goal

pub returns : goal.returns
returns c = limits
