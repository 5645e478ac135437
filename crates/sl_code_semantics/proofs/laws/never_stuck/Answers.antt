use Rattle.sl_code_semantics.proofs.soundness.Soundness.{never_stuck}
use Rattle.sl_code_semantics.proofs.laws.never_stuck.Goals as goal

pub returns : goal.returns
returns c = never_stuck
