use Rattle.sl_law_examples.proofs.SmallTables.{winners_among_lists}
use Rattle.sl_law_examples.proofs.tables.winners_among_lists.Goals as goal

pub returns : goal.returns
returns c = winners_among_lists
