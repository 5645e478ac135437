use Rattle.sl_law_meaning.proofs.FactReadings.{facts_of_lands}
use Rattle.sl_law_meaning.proofs.laws.returns.facts_of_lands.Goals as goal

pub returns : goal.returns
returns c = facts_of_lands
