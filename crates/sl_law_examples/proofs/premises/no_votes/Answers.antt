use Rattle.sl_law_examples.proofs.Sharper.{no_votes}
use Rattle.sl_law_examples.proofs.premises.no_votes.Goals as goal

pub returns : goal.returns
returns c = no_votes
