-- The cursors are in range, so that the cell is.
use Rattle.sl_code_steps.proofs.stores.Bounds.{cell_within}
use Rattle.sl_code_steps.proofs.store.Store.cell_index.Goals as goal

pub returns-clause-within : goal.returns-clause-within
returns-clause-within c =
    cell_within c.args.returns.now c.args.self.now.cursors.cells c.args.shape c.cell.result c.requires.parties c.requires.range.party c.requires.range.land c.cell.ensures
