use Rattle.sl_law_examples.proofs.Compared.{whole_percents}
use Rattle.sl_law_examples.proofs.measures.whole_percents.Goals as goal

pub returns : goal.returns
returns c = whole_percents
