use Rattle.sl_law_examples.proofs.EqualVotes.{larger_house_by_tie}
use Rattle.sl_law_examples.proofs.premises.larger_house_by_tie.Goals as goal

pub returns : goal.returns
returns c = larger_house_by_tie
