use Rattle.sl_law_certificate_examples.proofs.Small.{tied_scope}
use Rattle.sl_law_certificate_examples.proofs.laws.tied_scope.Goals as goal

pub returns : goal.returns
returns c = tied_scope
