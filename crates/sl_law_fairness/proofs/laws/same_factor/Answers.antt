use Rattle.sl_law_fairness.proofs.RelativeVotes.{same_factor}
use Rattle.sl_law_fairness.proofs.laws.same_factor.Goals as goal

pub returns : goal.returns
returns c = same_factor
