-- The cursor is set, at a winner whose list is there.
use Rattle.std.proofs.Common.{ap, sym, ◌∙◌}
use Rattle.sl_code_semantics.specs.Effects.{Goes}
use Rattle.sl_code_steps.proofs.store.Store.seat_on_list.Goals as goal

pub returns-then-is_list-clause-follows : goal.returns-then-is_list-clause-follows
returns-then-is_list-clause-follows c code =
    rw (c.place-win.ensures, c.win-winner.ensures, c.in-Some.is, sym c.is_list.ensures ∙ c.if-is_list.true)
    (ap Goes (rw c.place-win.ensures at c.put_winner.ensures.state))
