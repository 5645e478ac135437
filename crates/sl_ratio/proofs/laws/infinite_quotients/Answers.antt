use Rattle.sl_ratio.proofs.LawProofs.{infinite_quotients}
use Rattle.sl_ratio.proofs.laws.infinite_quotients.Goals as goal

pub returns : goal.returns
returns c = infinite_quotients
