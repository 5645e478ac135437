use Rattle.sl_code_semantics.proofs.kinds.RegisterSets.{has_one, includes_each, each_includes}
use Rattle.sl_verify.proofs.laws.register_sets.Goals as goal

pub returns-clause-one : goal.returns-clause-one
returns-clause-one c = has_one

pub returns-clause-all : goal.returns-clause-all
returns-clause-all c = λ have need fits. (λ h q _ n. includes_each have need h q n, each_includes have need fits)
