use Rattle.sl_code_semantics.proofs.kinds.Kinded.{tests_as_passed, kinded_as_passed}
use Rattle.sl_verify.proofs.laws.kinded_by_pass.Goals as goal

pub returns-clause-tests : goal.returns-clause-tests
returns-clause-tests c = tests_as_passed

pub returns-clause-kinded : goal.returns-clause-kinded
returns-clause-kinded c = kinded_as_passed
