use Rattle.sl_law_certificates.proofs.GrowthAwards.{growths_are_shown}
use Rattle.sl_law_certificates.proofs.laws.growths_are_shown.Goals as goal

pub returns : goal.returns
returns c = growths_are_shown
