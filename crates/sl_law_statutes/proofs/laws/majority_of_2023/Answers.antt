use Rattle.sl_law_statutes.proofs.Majorities.{majority_of_2023}
use Rattle.sl_law_statutes.proofs.laws.majority_of_2023.Goals as goal

pub returns : goal.returns
returns c = majority_of_2023
