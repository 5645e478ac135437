use Rattle.sl_law_examples.proofs.SmallTables.{half_of_all}
use Rattle.sl_law_examples.proofs.tables.half_of_all.Goals as goal

pub returns : goal.returns
returns c = half_of_all
