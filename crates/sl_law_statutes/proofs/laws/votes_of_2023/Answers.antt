use Rattle.sl_law_statutes.proofs.MoreVotes.{votes_of_2023}
use Rattle.sl_law_statutes.proofs.laws.votes_of_2023.Goals as goal

pub returns : goal.returns
returns c = votes_of_2023
