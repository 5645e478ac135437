use Rattle.std.proofs.Common.{sym, ◌∙◌}
use Rattle.std.proofs.lemmas.Result.{IfOk-weaker}
use Rattle.sl_report_tables.specs.Reports.{beside}
use Rattle.sl_terminal_commands.proofs.Reported.{report_done, report_of}
use Rattle.sl_terminal_commands.proofs.commands.Commands.report_count.Goals as goal

pub returns-in-Ok-clause-answer : goal.returns-in-Ok-clause-answer
returns-in-Ok-clause-answer g c =
    IfOk-weaker c.report_read-answered.result _ _
    (
    λ a h.
    report_of (g.F.Forms.is_text c.args.forms.now) (g.O.Outside.bytes c.args.self.now.outside.now) c.args.writing c.args.show h.0 h.1 (record { book = c.args.book; returns = c.args.returns }) c.in-Ok.read a c.in-Ok.ensures.judged
    c.in-Ok.ensures.text h.2 h.3
    )
    c.report_read-answered.ensures

pub returns-in-Ok-clause-done : goal.returns-in-Ok-clause-done
returns-in-Ok-clause-done g c =
    IfOk-weaker c.report_read-answered.result _ _
    (
    λ a h done.
    report_done (beside h.1 c.args.show) h.0 c.in-Ok.read.judged h.3.answer c.args.writing.style.language a.said.items h.3.shows (sym h.3.status ∙ done) h.3.said
    )
    c.report_read-answered.ensures
