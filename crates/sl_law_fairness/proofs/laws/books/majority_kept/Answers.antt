use Rattle.sl_law_fairness.proofs.Amounts.{majority_kept, grown_majority_kept}
use Rattle.sl_law_fairness.proofs.laws.books.majority_kept.Goals as goal

pub returns-clause-splits : goal.returns-clause-splits
returns-clause-splits c = majority_kept

pub returns-clause-growths : goal.returns-clause-growths
returns-clause-growths c = grown_majority_kept
