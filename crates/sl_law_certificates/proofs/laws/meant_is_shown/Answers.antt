use Rattle.sl_law_certificates.proofs.Meant.{meant_is_shown}
use Rattle.sl_law_certificates.proofs.laws.meant_is_shown.Goals as goal

pub returns : goal.returns
returns c = meant_is_shown
