use Rattle.sl_law_examples.proofs.Compared.{preferred_deviates}
use Rattle.sl_law_examples.proofs.hamilton.preferred_deviates.Goals as goal

pub returns : goal.returns
returns c = preferred_deviates
