use Rattle.sl_law_examples.proofs.MissingPremises.{house_grows}
use Rattle.sl_law_examples.proofs.premises.house_grows.Goals as goal

pub returns : goal.returns
returns c = house_grows
