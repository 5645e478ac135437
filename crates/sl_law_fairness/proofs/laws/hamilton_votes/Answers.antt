use Rattle.sl_law_fairness.proofs.HamiltonVotes.{hamilton_votes}
use Rattle.sl_law_fairness.proofs.laws.hamilton_votes.Goals as goal

pub returns : goal.returns
returns c = hamilton_votes
