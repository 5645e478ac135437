use Rattle.sl_law_examples.proofs.SmallTables.{four_are_enough}
use Rattle.sl_law_examples.proofs.tables.four_are_enough.Goals as goal

pub returns : goal.returns
returns c = four_are_enough
