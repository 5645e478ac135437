use Rattle.sl_law_meaning.proofs.FactReadings.{eligible_parties}
use Rattle.sl_law_meaning.proofs.laws.returns.eligible_parties.Goals as goal

pub returns : goal.returns
returns c = eligible_parties
