use Rattle.sl_base_rankings.proofs.LawProofs.{tops}
use Rattle.sl_base_rankings.proofs.laws.tops.Goals as goal

pub returns : goal.returns
returns c = tops
