use Rattle.sl_count_calls.proofs.AnyInputs.{still_shown}
use Rattle.sl_count_calls.proofs.calls.status_of.Goals as goal
use Rattle.sl_count_inputs.specs.Reading.{book_input}

pub returns-clause-returns : goal.returns-clause-returns
returns-clause-returns g c =
    still_shown g.R.Source.remaining (book_input g.B.Source.remaining c.args.book.now) c.args.returns.now c.show.new.returns c.show.result c.in_ok-shown.shown.status
    c.args.view c.show.ensures.returns
