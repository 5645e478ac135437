use Rattle.sl_law_examples.proofs.Compared.{just_shares}
use Rattle.sl_law_examples.proofs.measures.just_shares.Goals as goal

pub returns : goal.returns
returns c = just_shares
