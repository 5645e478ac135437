-- The fault is of its kind.
use Rattle.std.proofs.Common.{ap, ◌∙◌}
use Rattle.sl_law_meaning.specs.declared.fault.FaultKind.{FaultKind}
use Rattle.sl_code_semantics.specs.Effects.{faults}
use Rattle.sl_code_steps.specs.inner.Stores.{state_of}
use Rattle.sl_code_steps.proofs.store.Store.end_with_fault.Goals as goal

pub returns : goal.returns
returns c = λ e. c.fault.ensures e ∙ ap (λ (kind : FaultKind). faults c.args.code.now e c.args.stage c.args.scope kind (state_of c.args.self.now)) c.kind_of.ensures
