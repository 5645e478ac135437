use Rattle.sl_law_statutes.proofs.Majorities.{lists_of_2023}
use Rattle.sl_law_statutes.proofs.laws.lists_of_2023.Goals as goal

pub returns : goal.returns
returns c = lists_of_2023
