use Rattle.sl_law_certificates.proofs.Cuts.{cut_is_tested}
use Rattle.sl_law_certificates.proofs.laws.cut_is_tested.Goals as goal

pub returns : goal.returns
returns c = cut_is_tested
