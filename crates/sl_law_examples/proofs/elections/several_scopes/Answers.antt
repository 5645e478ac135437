use Rattle.sl_law_examples.proofs.ScopeExamples.{several_scopes}
use Rattle.sl_law_examples.proofs.elections.several_scopes.Goals as goal

pub returns : goal.returns
returns c = several_scopes
