use Rattle.sl_law_meaning.proofs.meaning.OneOutcome.{one_seating}
use Rattle.sl_law_meaning.proofs.laws.meaning.one_seating.Goals as goal

pub returns : goal.returns
returns c = one_seating
