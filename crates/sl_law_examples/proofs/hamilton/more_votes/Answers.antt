use Rattle.sl_law_examples.proofs.Remainders.{more_votes}
use Rattle.sl_law_examples.proofs.hamilton.more_votes.Goals as goal

pub returns : goal.returns
returns c = more_votes
