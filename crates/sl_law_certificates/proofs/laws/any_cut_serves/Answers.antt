use Rattle.sl_law_certificates.proofs.CutLaws.{any_cut_serves}
use Rattle.sl_law_certificates.proofs.laws.any_cut_serves.Goals as goal

pub returns : goal.returns
returns c = any_cut_serves
