use Rattle.sl_law_examples.proofs.EqualVotes.{named_twice}
use Rattle.sl_law_examples.proofs.premises.named_twice.Goals as goal

pub returns : goal.returns
returns c = named_twice
