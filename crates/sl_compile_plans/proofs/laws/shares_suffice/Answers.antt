use Rattle.sl_compile_plans.proofs.Prices.{shares_suffice}
use Rattle.sl_compile_plans.proofs.laws.shares_suffice.Goals as goal

pub returns : goal.returns
returns c = shares_suffice
