use Rattle.std.proofs.Common.{◌≡◌, None, subst}
use Rattle.sl_code_semantics.specs.Faults.{verify_fault}
use Rattle.sl_code_semantics.proofs.kinds.Kinded.{kinds_have_no_fault}
use Rattle.sl_code_semantics.proofs.verified.Verified.code.Goals as goal

pub returns-clause-accepted : goal.returns-clause-accepted
returns-clause-accepted c = subst (λ code. verify_fault code ≡ None) c.self.view_is (kinds_have_no_fault c.self.inside.code c.self.invariant)
