-- The cursor is set, at a winner.
use Rattle.std.proofs.Common.{ap}
use Rattle.sl_code_semantics.specs.Effects.{Goes}
use Rattle.sl_code_steps.proofs.store.Store.seat_as_single.Goals as goal

pub returns-clause-follows : goal.returns-clause-follows
returns-clause-follows c code = rw c.place-win.ensures (ap Goes (rw c.place-win.ensures at c.put_winner.ensures.state))
