use Rattle.sl_law_examples.proofs.WorkedExamples.{first_seats}
use Rattle.sl_law_examples.proofs.scopes.first_seats.Goals as goal

pub returns : goal.returns
returns c = first_seats
