-- No test fails exactly where the code is well kinded.
use Rattle.std.proofs.Common.{refl, sym}
use Rattle.std.proofs.lemmas.Bool.{true≢false}
use Rattle.sl_code_semantics.specs.Faults.{verify_fault}
use Rattle.sl_code_semantics.proofs.kinds.Passing.{fails_or_passes}
use Rattle.sl_code_semantics.proofs.kinds.Kinded.{kinds_have_no_fault, no_fault_has_kinds}
use Rattle.sl_verify.proofs.verifier.verify.Goals as goal

pub known-requires : goal.known-requires
known-requires c = no_fault_has_kinds c.args.code c.in-Ok.ensures.0

pub returns-in-Ok-clause-exact : goal.returns-in-Ok-clause-exact
returns-in-Ok-clause-exact c = (λ _. no_fault_has_kinds c.args.code c.in-Ok.ensures.0, λ _. refl)

pub returns-in-Err-clause-exact : goal.returns-in-Err-clause-exact
returns-in-Err-clause-exact c =
    (λ e. absurd (true≢false (sym e)), λ h. absurd (fails_or_passes (verify_fault c.args.code) c.in-Err.fault c.in-Err.ensures (kinds_have_no_fault c.args.code h)))
