use Rattle.sl_law_fairness.proofs.Votes.{votes_ordered}
use Rattle.sl_law_fairness.proofs.laws.votes_ordered.Goals as goal

pub returns : goal.returns
returns c = votes_ordered
