use Rattle.sl_ratio.proofs.LawProofs.{five_methods}
use Rattle.sl_ratio.proofs.laws.five_methods.Goals as goal

pub returns : goal.returns
returns c = five_methods
