use Rattle.sl_law_meaning.proofs.FactReadings.{lists_are_named}
use Rattle.sl_law_meaning.proofs.laws.returns.lists_are_named.Goals as goal

pub returns : goal.returns
returns c = lists_are_named
