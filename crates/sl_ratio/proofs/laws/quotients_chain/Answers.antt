use Rattle.sl_ratio.proofs.LawProofs.{quotients_chain}
use Rattle.sl_ratio.proofs.laws.quotients_chain.Goals as goal

pub returns : goal.returns
returns c = quotients_chain
