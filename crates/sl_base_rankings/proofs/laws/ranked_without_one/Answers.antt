use Rattle.sl_base_rankings.proofs.RankedEntries.{ranked_without_one}
use Rattle.sl_base_rankings.proofs.laws.ranked_without_one.Goals as goal

pub returns : goal.returns
returns c = ranked_without_one
