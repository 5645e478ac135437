use Rattle.sl_code_semantics.proofs.soundness.Soundness.{starts_are_safe}
use Rattle.sl_code_semantics.proofs.laws.starts_are_safe.Goals as goal

pub returns : goal.returns
returns c = starts_are_safe
