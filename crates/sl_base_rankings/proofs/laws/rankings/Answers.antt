use Rattle.sl_base_rankings.proofs.LawProofs.{rankings}
use Rattle.sl_base_rankings.proofs.laws.rankings.Goals as goal

pub returns : goal.returns
returns c = rankings
