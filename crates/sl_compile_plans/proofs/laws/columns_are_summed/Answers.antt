use Rattle.sl_compile_plans.proofs.Sums.{columns_are_summed}
use Rattle.sl_compile_plans.proofs.laws.columns_are_summed.Goals as goal

pub returns : goal.returns
returns c = columns_are_summed
