use Rattle.sl_law_examples.proofs.WorkedExamples.{webster_thirty_ten}
use Rattle.sl_law_examples.proofs.scopes.webster_thirty_ten.Goals as goal

pub returns : goal.returns
returns c = webster_thirty_ten
