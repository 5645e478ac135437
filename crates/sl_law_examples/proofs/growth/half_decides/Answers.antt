use Rattle.sl_law_examples.proofs.Growing.{half_decides}
use Rattle.sl_law_examples.proofs.growth.half_decides.Goals as goal

pub returns : goal.returns
returns c = half_decides
