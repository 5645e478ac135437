use Rattle.sl_count_calls.proofs.AnyInputs.{is_for, known_shown}
use Rattle.sl_terminal_commands.proofs.commands.Commands.count.Goals as goal
use Rattle.sl_terminal_outside.specs.Inputs.{named_input}

pub count_answered-answered-requires : goal.count_answered-answered-requires
count_answered-answered-requires g c = is_for c.args.view c.in-Ok.read.judged c.in-Ok.ensures.fits

pub returns-in_ok-answered-in-Ok-clause-output : goal.returns-in_ok-answered-in-Ok-clause-output
returns-in_ok-answered-in-Ok-clause-output g c =
    let bytes = g.O.Outside.bytes c.args.self.now.outside.now in
    known_shown c.args.view c.in-Ok.read.judged (named_input bytes c.args.book.now) (bytes c.args.returns.now) _ _ c.in-Ok.ensures.judged c.in_ok-answered-in-Ok.ensures.output
