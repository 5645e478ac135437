use Rattle.sl_law_examples.proofs.Growing.{without_votes}
use Rattle.sl_law_examples.proofs.growth.without_votes.Goals as goal

pub returns : goal.returns
returns c = without_votes
