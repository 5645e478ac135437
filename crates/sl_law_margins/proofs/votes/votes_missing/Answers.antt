use Rattle.sl_law_margins.proofs.NoMinima.{missing_without}
use Rattle.sl_law_margins.proofs.votes.votes_missing.Goals as goal

pub returns-clause-missing : goal.returns-clause-missing
returns-clause-missing c = missing_without c.args.method c.args.weights.now c.args.seats.now c.args.entry c.votes_missing_with_minima.result c.votes_missing_with_minima.ensures.missing
