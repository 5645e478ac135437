use Rattle.sl_table.proofs.Pieces.{pieces_more}
use Rattle.sl_table.proofs.tables.lists.Goals as goal

pub loop-land-preserved : goal.loop-land-preserved
loop-land-preserved c = pieces_more _ c.loop-land.land c.loop-land.lists.items _ c.loop-land.invariant c.in_ok-push_lists.ensures
