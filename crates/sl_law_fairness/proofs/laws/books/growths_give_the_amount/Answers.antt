use Rattle.sl_law_fairness.proofs.Amounts.{growths_give_the_amount}
use Rattle.sl_law_fairness.proofs.laws.books.growths_give_the_amount.Goals as goal

pub returns : goal.returns
returns c = growths_give_the_amount
