use Rattle.sl_compile_plans.proofs.Targets.{plans_jump_within}
use Rattle.sl_compile_plans.proofs.laws.plans_jump_within.Goals as goal

pub returns : goal.returns
returns c = plans_jump_within
