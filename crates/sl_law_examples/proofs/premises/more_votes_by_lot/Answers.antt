use Rattle.sl_law_examples.proofs.MissingPremises.{more_votes_by_lot}
use Rattle.sl_law_examples.proofs.premises.more_votes_by_lot.Goals as goal

pub returns : goal.returns
returns c = more_votes_by_lot
