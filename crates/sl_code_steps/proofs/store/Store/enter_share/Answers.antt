-- The cursor is set, at a winner.
use Rattle.sl_code_steps.proofs.store.Store.enter_share.Goals as goal

pub returns-clause-follows : goal.returns-clause-follows
returns-clause-follows c =
    rw (c.place.ensures, c.win-winner.ensures)
    (rw (c.place.ensures, c.new-share.ensures.value, c.from.ensures, c.from-2.ensures) at c.enter.ensures.follows)
