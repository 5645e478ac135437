use Rattle.std.proofs.Common.{inr, subst}
use Rattle.sl_terminal_commands.proofs.Failing.{replies_by}
use Rattle.sl_terminal_commands.proofs.commands.Commands.reply_in.Goals as goal
use Rattle.sl_terminal_commands.specs.inner.Outcomes.{RepliesTo}

pub returns-in-Ok : goal.returns-in-Ok
returns-in-Ok g c =
    replies_by (g.F.Forms.is_text c.args.forms.now) (g.S.Speech.is_about c.args.speech.now) c.args.self.now.language (g.O.Outside.bytes c.args.self.now.outside.now) c.args.request
    c.args.speaker.is_quiet _ c.in-Ok.outcome c.of_outcome.result c.in-Ok.ensures.outcome
    (subst (λ path. RepliesTo c.args.speaker.is_quiet path c.in-Ok.outcome c.of_outcome.result) c.in-Ok.ensures.path c.of_outcome.ensures)

pub returns-in-Err : goal.returns-in-Err
returns-in-Err g c = inr record { number = inr c.stopped.ensures.0; out = c.stopped.ensures.1; made = c.stopped.ensures.2 }
