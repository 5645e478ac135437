use Rattle.sl_law_fairness.proofs.Huntington.{huntingtons_tests}
use Rattle.sl_law_fairness.proofs.laws.huntingtons_tests.Goals as goal

pub returns : goal.returns
returns c = huntingtons_tests
