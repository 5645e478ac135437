use Rattle.sl_law_examples.proofs.SmallTables.{more_independents}
use Rattle.sl_law_examples.proofs.tables.more_independents.Goals as goal

pub returns : goal.returns
returns c = more_independents
