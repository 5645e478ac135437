use Rattle.sl_base_rankings.proofs.LawProofs.{order_is_free}
use Rattle.sl_base_rankings.proofs.laws.order_is_free.Goals as goal

pub returns : goal.returns
returns c = order_is_free
