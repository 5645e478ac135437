use Rattle.sl_compile_plans.proofs.Prices.{plans_cost_their_price}
use Rattle.sl_compile_plans.proofs.laws.plans_cost_their_price.Goals as goal

pub returns : goal.returns
returns c = plans_cost_their_price
