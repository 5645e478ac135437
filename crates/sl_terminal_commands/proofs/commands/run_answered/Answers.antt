use Rattle.std.proofs.Common.{ap, sym, ◌∙◌}
use Rattle.sl_terminal_commands.proofs.Warned.{run_says_nothing}
use Rattle.sl_terminal_commands.proofs.commands.run_answered.Goals as goal

pub returns-in-Ok-clause-output : goal.returns-in-Ok-clause-output
returns-in-Ok-clause-output c = rw (c.with_said.ensures.status, c.with_said.ensures.text) c.in-Ok.ensures.output

pub returns-in-Ok-clause-done : goal.returns-in-Ok-clause-done
returns-in-Ok-clause-done c done =
    ap (λ v. v.items) c.with_said.ensures.said
    ∙ run_says_nothing c.args.read.now.judged c.args.language c.in_ok-said.said.items (c.in-Ok.ensures.done (sym c.with_said.ensures.status ∙ done)) c.in_ok-said.ensures
