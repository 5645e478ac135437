use Rattle.sl_law_meaning.proofs.meaning.OneResult.{one_split_award, one_growth_award}
use Rattle.sl_law_meaning.proofs.laws.meaning.one_award.Goals as goal

pub returns-clause-splits : goal.returns-clause-splits
returns-clause-splits c = one_split_award

pub returns-clause-growths : goal.returns-clause-growths
returns-clause-growths c = one_growth_award
