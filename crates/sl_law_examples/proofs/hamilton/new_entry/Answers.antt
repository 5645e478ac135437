use Rattle.sl_law_examples.proofs.Remainders.{new_entry}
use Rattle.sl_law_examples.proofs.hamilton.new_entry.Goals as goal

pub returns : goal.returns
returns c = new_entry
