use Rattle.sl_law_examples.proofs.EqualVotes.{equal_votes}
use Rattle.sl_law_examples.proofs.premises.equal_votes.Goals as goal

pub returns : goal.returns
returns c = equal_votes
