use Rattle.sl_law_examples.proofs.MissingPremises.{fewer_votes_by_lot}
use Rattle.sl_law_examples.proofs.premises.fewer_votes_by_lot.Goals as goal

pub returns : goal.returns
returns c = fewer_votes_by_lot
