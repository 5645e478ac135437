use Rattle.sl_law_examples.proofs.Joined.{webster_wins}
use Rattle.sl_law_examples.proofs.joins.webster_wins.Goals as goal

pub returns : goal.returns
returns c = webster_wins
