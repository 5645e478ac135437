use Rattle.sl_law_statutes.proofs.Unseated.{unseated_of_2023}
use Rattle.sl_law_statutes.proofs.laws.unseated_of_2023.Goals as goal

pub returns : goal.returns
returns c = unseated_of_2023
