use Rattle.std.proofs.Common.{subst, unwrap_or, ◌⊎◌}
use Rattle.sl_terminal_commands.proofs.commands.Commands.reply.Goals as goal
use Rattle.sl_terminal_commands.specs.Files.{made_at}
use Rattle.sl_terminal_commands.specs.Replies.{IsReplied, IsStopped}
use Rattle.sl_terminal_commands.specs.Requests.{IsAnswerTo}
use Rattle.sl_terminal_commands.specs.declared.answered.Answered.{Answered}

pub returns : goal.returns
returns g c =
    let text = g.F.Forms.is_text c.args.forms.now in
    let about = g.S.Speech.is_about c.args.speech.now in
    let request = c.args.asked.request in
    let quiet = c.args.asked.options.is_quiet in
    let commands = c.speaking-commands.result in
    let r = c.reply_in-reply.result in
    subst (λ o. ((a : Answered) × IsAnswerTo text about (unwrap_or c.args.asked.options.language c.args.self.now.language) (g.O.Outside.bytes o.now) request a × IsReplied quiet (made_at request) a r) ⊎ IsStopped (g.O.Outside.bytes o.now) request r) c.speaking-commands.ensures.outside
    (
    subst (λ l. ((a : Answered) × IsAnswerTo text about l (g.O.Outside.bytes commands.outside.now) request a × IsReplied quiet (made_at request) a r) ⊎ IsStopped (g.O.Outside.bytes commands.outside.now) request r)
    c.speaking-commands.ensures.language c.reply_in-reply.ensures
    )
