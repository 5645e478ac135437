use Rattle.sl_law_examples.proofs.MeaningExamples.{last_clauses}
use Rattle.sl_law_examples.proofs.elections.last_clauses.Goals as goal

pub returns : goal.returns
returns c = last_clauses
