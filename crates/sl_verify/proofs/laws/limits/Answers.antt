use Rattle.std.proofs.Common.{refl}
use Rattle.sl_verify.proofs.laws.limits.Goals as goal

pub returns : goal.returns
returns c = (refl, refl)
