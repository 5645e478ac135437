use Rattle.sl_law_examples.proofs.Compared.{most_least_by_lot}
use Rattle.sl_law_examples.proofs.measures.most_least_by_lot.Goals as goal

pub returns : goal.returns
returns c = most_least_by_lot
