use Rattle.sl_law_certificates.proofs.CutLaws.{hamilton_is_only}
use Rattle.sl_law_certificates.proofs.laws.hamilton_is_only.Goals as goal

pub returns : goal.returns
returns c = hamilton_is_only
