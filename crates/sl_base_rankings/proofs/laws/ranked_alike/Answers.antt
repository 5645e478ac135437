use Rattle.sl_base_rankings.proofs.RankedEntries.{ranked_alike}
use Rattle.sl_base_rankings.proofs.laws.ranked_alike.Goals as goal

pub returns : goal.returns
returns c = ranked_alike
