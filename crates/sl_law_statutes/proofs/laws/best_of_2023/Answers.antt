use Rattle.sl_law_statutes.proofs.Best.{best_of_2023}
use Rattle.sl_law_statutes.proofs.laws.best_of_2023.Goals as goal

pub returns : goal.returns
returns c = best_of_2023
