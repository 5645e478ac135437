use Rattle.std.proofs.Common.{subst, sym, ◌∙◌}
use Rattle.sl_terminal_commands.proofs.Warned.{table_warns}
use Rattle.sl_terminal_commands.proofs.commands.count_answered.Goals as goal
use Rattle.sl_terminal_commands.specs.Said.{AreWarnings}

pub returns-in-Ok-clause-output : goal.returns-in-Ok-clause-output
returns-in-Ok-clause-output c = rw (c.with_said.ensures.status, c.with_said.ensures.text) c.in-Ok.ensures.output

pub returns-in-Ok-clause-done : goal.returns-in-Ok-clause-done
returns-in-Ok-clause-done c done =
    subst (λ v. AreWarnings c.args.language v.items) (sym c.with_said.ensures.said)
    (table_warns c.args.read.now.judged c.args.language c.in_ok-said.said.items (c.in-Ok.ensures.done (sym c.with_said.ensures.status ∙ done)) c.in_ok-said.ensures)
