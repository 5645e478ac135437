use Rattle.sl_law_fairness.proofs.Amounts.{splits_give_the_amount}
use Rattle.sl_law_fairness.proofs.laws.books.splits_give_the_amount.Goals as goal

pub returns : goal.returns
returns c = splits_give_the_amount
