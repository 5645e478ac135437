use Rattle.sl_law_meaning.proofs.meaning.MeaningProofs.{some_outcome}
use Rattle.sl_law_meaning.proofs.laws.meaning.some_outcome.Goals as goal

pub returns : goal.returns
returns c = some_outcome
