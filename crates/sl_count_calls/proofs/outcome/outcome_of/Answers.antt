use Rattle.sl_count_calls.proofs.StageColumns.{has_slots}
use Rattle.sl_count_calls.proofs.Ends.{end_is_meant, outcome_fits}
use Rattle.sl_count_calls.proofs.outcome.outcome_of.Goals as goal
use Rattle.sl_law_meaning.specs.book.Books.{book_of}

pub end_of-requires-clause-slots : goal.end_of-requires-clause-slots
end_of-requires-clause-slots c = rw c.code-2.ensures.code (has_slots (book_of c.args.book.now.book) c.in_ok-code.code c.in_ok-code.ensures)

pub returns-clause-meant : goal.returns-clause-meant
returns-clause-meant c =
    end_is_meant c.args.records (book_of c.args.book.now.book) c.in_ok-code.code c.args.returns.now c.in_ok-code.ensures c.steps_of-steps.ensures.kept c.args.book.now.typed
    c.in_ok-ending.ending c.in_ok-end.end (rw c.steps_of-steps.ensures.steps at c.in_ok-ending.ensures.ending) (rw c.code-2.ensures.code at c.in_ok-end.ensures)

pub returns-clause-fits : goal.returns-clause-fits
returns-clause-fits c =
    outcome_fits c.args.records (book_of c.args.book.now.book) c.in_ok-code.code c.args.returns.now c.in_ok-code.ensures c.steps_of-steps.ensures.kept
    c.in_ok-ending.ending c.in_ok-end.end c.in_ok-ending.ensures.fits (rw c.code-2.ensures.code at c.in_ok-end.ensures)
