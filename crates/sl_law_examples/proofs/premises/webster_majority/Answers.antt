use Rattle.sl_law_examples.proofs.MissingPremises.{webster_majority}
use Rattle.sl_law_examples.proofs.premises.webster_majority.Goals as goal

pub returns : goal.returns
returns c = webster_majority
