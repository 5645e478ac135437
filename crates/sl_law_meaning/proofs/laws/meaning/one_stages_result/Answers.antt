use Rattle.sl_law_meaning.proofs.meaning.OneOutcome.{one_stages_result}
use Rattle.sl_law_meaning.proofs.laws.meaning.one_stages_result.Goals as goal

pub returns : goal.returns
returns c = one_stages_result
