use Rattle.sl_law_meaning.proofs.meaning.MeaningProofs.{any_order}
use Rattle.sl_law_meaning.proofs.laws.meaning.any_order.Goals as goal

pub returns : goal.returns
returns c = any_order
