use Rattle.sl_explain_calls.specs.Codes.{subject_of}
use Rattle.sl_report_tables.specs.Answers.{IsRefusedBy}
use Rattle.sl_terminal_commands.proofs.Columns.{sheets_of}
use Rattle.sl_terminal_commands.proofs.comparing.refused_answered.Goals as goal
use Rattle.sl_terminal_commands.specs.Said.{fault}

pub returns : goal.returns
returns g c =
    sheets_of (g.F.Forms.is_text c.args.manner.now.forms.now) c.args.manner.now.style _ (IsRefusedBy c.args.line.items) (fault (subject_of c.args.explained.now)) c.answered.result
    c.refused-answer.result c.in_ok-said.said c.answered.ensures.status c.answered.ensures.written c.answered.ensures.said c.refused-answer.ensures c.in_ok-said.ensures
