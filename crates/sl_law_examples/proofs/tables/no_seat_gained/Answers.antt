use Rattle.sl_law_examples.proofs.NoGain.{no_seat_gained}
use Rattle.sl_law_examples.proofs.tables.no_seat_gained.Goals as goal

pub returns : goal.returns
returns c = no_seat_gained
