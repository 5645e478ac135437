use Rattle.sl_base_rankings.proofs.RankedEntries.{falling_rankings}
use Rattle.sl_base_rankings.proofs.laws.falling_rankings.Goals as goal

pub returns : goal.returns
returns c = falling_rankings
