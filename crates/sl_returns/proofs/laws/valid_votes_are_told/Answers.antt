use Rattle.sl_returns.proofs.Accepted.{valid_votes_are_told}
use Rattle.sl_returns.proofs.laws.valid_votes_are_told.Goals as goal

pub returns : goal.returns
returns c = valid_votes_are_told
