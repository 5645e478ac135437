use Rattle.sl_compile_plans.proofs.Following.{plans_are_followed}
use Rattle.sl_compile_plans.proofs.laws.plans_are_followed.Goals as goal

pub returns : goal.returns
returns c = plans_are_followed
