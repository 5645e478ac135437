use Rattle.std.proofs.Common.{is_err, subst}
use Rattle.sl_terminal_commands.proofs.Columns.{sheets_of}
use Rattle.sl_terminal_commands.proofs.comparing.finish_comparison.Goals as goal
use Rattle.sl_terminal_commands.specs.Comparisons.{table_said}
use Rattle.sl_terminal_commands.specs.Said.{IsSaid}
use Rattle.sl_terminal_commands.specs.inner.Comparing.{ShowsNamed}

pub returns : goal.returns
returns g c good =
    let style = c.args.manner.now.style in
    let e = c.args.election.now in
    let refused = is_err c.args.names in
    sheets_of (g.F.Forms.is_text c.args.manner.now.forms.now) style _ (ShowsNamed refused e c.args.books.items) (table_said refused e) c.answered.result c.in_ok-answer.answer c.in_ok-said.said
    c.answered.ensures.status c.answered.ensures.written c.answered.ensures.said (c.in_ok-answer.ensures good)
    (subst (λ b. IsSaid style.language (table_said b e) c.in_ok-said.said.items) c.is_err-is_refused.ensures.value c.in_ok-said.ensures)
