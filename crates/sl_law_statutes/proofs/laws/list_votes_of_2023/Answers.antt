use Rattle.sl_law_statutes.proofs.ListGains.{list_votes_of_2023}
use Rattle.sl_law_statutes.proofs.laws.list_votes_of_2023.Goals as goal

pub returns : goal.returns
returns c = list_votes_of_2023
