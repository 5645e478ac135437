use Rattle.sl_law_fairness.proofs.Apart.{separated_is_only}
use Rattle.sl_law_fairness.proofs.laws.separated_is_only.Goals as goal

pub returns : goal.returns
returns c = separated_is_only
