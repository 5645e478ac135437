use Rattle.sl_ratio.proofs.LawProofs.{entry_order}
use Rattle.sl_ratio.proofs.laws.entry_order.Goals as goal

pub returns : goal.returns
returns c = entry_order
