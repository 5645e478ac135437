use Rattle.sl_law_fairness.proofs.Growths.{grown_by_votes}
use Rattle.sl_law_fairness.proofs.laws.grown_by_votes.Goals as goal

pub returns : goal.returns
returns c = grown_by_votes
