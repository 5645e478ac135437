use Rattle.sl_law_certificates.proofs.CutLaws.{clear_is_only}
use Rattle.sl_law_certificates.proofs.laws.clear_is_only.Goals as goal

pub returns : goal.returns
returns c = clear_is_only
