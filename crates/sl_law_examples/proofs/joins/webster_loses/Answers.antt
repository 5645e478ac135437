use Rattle.sl_law_examples.proofs.Joined.{webster_loses}
use Rattle.sl_law_examples.proofs.joins.webster_loses.Goals as goal

pub returns : goal.returns
returns c = webster_loses
