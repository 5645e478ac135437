use Rattle.sl_law_examples.proofs.MissingPremises.{half_of_even}
use Rattle.sl_law_examples.proofs.premises.half_of_even.Goals as goal

pub returns : goal.returns
returns c = half_of_even
