use Rattle.sl_law_fairness.proofs.RelativeVotes.{absolutely_monotone}
use Rattle.sl_law_fairness.proofs.laws.absolutely_monotone.Goals as goal

pub returns : goal.returns
returns c = absolutely_monotone
