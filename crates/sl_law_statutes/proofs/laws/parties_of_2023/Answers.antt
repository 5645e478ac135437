use Rattle.sl_law_statutes.proofs.MoreVotes.{parties_of_2023}
use Rattle.sl_law_statutes.proofs.laws.parties_of_2023.Goals as goal

pub returns : goal.returns
returns c = parties_of_2023
