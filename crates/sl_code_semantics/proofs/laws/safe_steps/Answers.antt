use Rattle.sl_code_semantics.proofs.soundness.Soundness.{safe_steps}
use Rattle.sl_code_semantics.proofs.laws.safe_steps.Goals as goal

pub returns : goal.returns
returns c = safe_steps
