use Rattle.sl_law_examples.proofs.DeanAndHill.{less_than_half}
use Rattle.sl_law_examples.proofs.premises.less_than_half.Goals as goal

pub returns : goal.returns
returns c = less_than_half
