use Rattle.sl_law_fairness.proofs.Votes.{votes_monotone}
use Rattle.sl_law_fairness.proofs.laws.votes_monotone.Goals as goal

pub returns : goal.returns
returns c = votes_monotone
