use Rattle.sl_law_meaning.proofs.meaning.MeaningProofs.{at_most_one_outcome}
use Rattle.sl_law_meaning.proofs.laws.meaning.at_most_one_outcome.Goals as goal

pub returns : goal.returns
returns c = at_most_one_outcome
