use Rattle.sl_law_meaning.proofs.meaning.PlainMeaning.{plain_outcomes}
use Rattle.sl_law_meaning.proofs.laws.meaning.plain_outcomes.Goals as goal

pub returns : goal.returns
returns c = plain_outcomes
