use Rattle.sl_base_rankings.proofs.RankedEntries.{ranked_with_one_more}
use Rattle.sl_base_rankings.proofs.laws.ranked_with_one_more.Goals as goal

pub returns : goal.returns
returns c = ranked_with_one_more
