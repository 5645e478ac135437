use Rattle.std.proofs.Common.{refl}
use Rattle.sl_code.proofs.laws.limits.Goals as goal

pub returns : goal.returns
returns c = (refl, refl, refl)
