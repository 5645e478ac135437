use Rattle.sl_law_fairness.proofs.HamiltonVotes.{hamilton_ordered}
use Rattle.sl_law_fairness.proofs.laws.hamilton_ordered.Goals as goal

pub returns : goal.returns
returns c = hamilton_ordered
