use Rattle.sl_compile_plans.proofs.Sums.{sums_are_accepted}
use Rattle.sl_compile_plans.proofs.laws.sums_are_accepted.Goals as goal

pub returns : goal.returns
returns c = sums_are_accepted
