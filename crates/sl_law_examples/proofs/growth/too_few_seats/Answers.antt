use Rattle.sl_law_examples.proofs.Growing.{too_few_seats}
use Rattle.sl_law_examples.proofs.growth.too_few_seats.Goals as goal

pub returns : goal.returns
returns c = too_few_seats
