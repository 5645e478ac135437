use Rattle.sl_law_examples.proofs.MissingPremises.{more_votes_among_others}
use Rattle.sl_law_examples.proofs.premises.more_votes_among_others.Goals as goal

pub returns : goal.returns
returns c = more_votes_among_others
