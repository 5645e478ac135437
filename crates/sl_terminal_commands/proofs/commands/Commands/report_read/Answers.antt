use Rattle.std.proofs.Common.{is_err}
use Rattle.sl_terminal_commands.proofs.Reported.{besides}
use Rattle.sl_terminal_commands.proofs.commands.Commands.report_read.Goals as goal

pub returns-in_ok-answered-in-Ok : goal.returns-in_ok-answered-in-Ok
returns-in_ok-answered-in-Ok g c =
    besides (g.F.Forms.is_text c.args.forms.now) (g.O.Outside.bytes c.args.self.now.outside.now) c.args.writing c.args.show (is_err c.in_ok-names.names) c.in-Ok.table c.args.paths.book.now c.args.read.now
    c.in_ok-answered-in-Ok.field-0 c.in_ok-names.ensures c.in-Ok.ensures.read c.in_ok-answered-in-Ok.ensures
