use Rattle.sl_law_examples.proofs.SmallTables.{best_by_one_measure}
use Rattle.sl_law_examples.proofs.tables.best_by_one_measure.Goals as goal

pub returns : goal.returns
returns c = best_by_one_measure
