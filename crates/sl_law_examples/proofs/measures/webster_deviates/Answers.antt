use Rattle.sl_law_examples.proofs.Compared.{webster_deviates}
use Rattle.sl_law_examples.proofs.measures.webster_deviates.Goals as goal

pub returns : goal.returns
returns c = webster_deviates
