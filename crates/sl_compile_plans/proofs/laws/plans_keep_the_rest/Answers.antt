use Rattle.sl_compile_plans.proofs.Keeping.{plans_keep_the_rest}
use Rattle.sl_compile_plans.proofs.laws.plans_keep_the_rest.Goals as goal

pub returns : goal.returns
returns c = plans_keep_the_rest
