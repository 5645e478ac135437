use Rattle.sl_compile_plans.proofs.Kinded.{fine_plans_pass}
use Rattle.sl_compile_plans.proofs.laws.fine_plans_pass.Goals as goal

pub returns : goal.returns
returns c = fine_plans_pass
