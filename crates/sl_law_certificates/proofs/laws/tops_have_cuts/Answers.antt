use Rattle.sl_law_certificates.proofs.CutLaws.{tops_have_cuts}
use Rattle.sl_law_certificates.proofs.laws.tops_have_cuts.Goals as goal

pub returns : goal.returns
returns c = tops_have_cuts
