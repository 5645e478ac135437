use Rattle.sl_law_examples.proofs.LawExample.{law_of_1956_holds}
use Rattle.sl_law_examples.proofs.elections.law_of_1956.Goals as goal

pub returns : goal.returns
returns c = law_of_1956_holds
