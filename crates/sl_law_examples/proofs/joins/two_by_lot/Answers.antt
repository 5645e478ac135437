use Rattle.sl_law_examples.proofs.Compared.{two_by_lot}
use Rattle.sl_law_examples.proofs.joins.two_by_lot.Goals as goal

pub returns : goal.returns
returns c = two_by_lot
