use Rattle.sl_law_meaning.proofs.FactReadings.{facts_of_lists}
use Rattle.sl_law_meaning.proofs.laws.returns.facts_of_lists.Goals as goal

pub returns : goal.returns
returns c = facts_of_lists
