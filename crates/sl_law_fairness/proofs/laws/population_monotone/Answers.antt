use Rattle.sl_law_fairness.proofs.RelativeVotes.{population_monotone}
use Rattle.sl_law_fairness.proofs.laws.population_monotone.Goals as goal

pub returns : goal.returns
returns c = population_monotone
