use Rattle.sl_law_statutes.proofs.Statutes.{total_of_2023_order}
use Rattle.sl_law_statutes.proofs.laws.total_of_2023_order.Goals as goal

pub returns : goal.returns
returns c = total_of_2023_order
