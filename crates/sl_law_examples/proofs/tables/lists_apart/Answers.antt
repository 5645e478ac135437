use Rattle.sl_law_examples.proofs.SmallTables.{lists_apart}
use Rattle.sl_law_examples.proofs.tables.lists_apart.Goals as goal

pub returns : goal.returns
returns c = lists_apart
