use Rattle.sl_law_certificates.proofs.Outcomes.{shown_is_meant}
use Rattle.sl_law_certificates.proofs.laws.shown_is_meant.Goals as goal

pub returns : goal.returns
returns c = shown_is_meant
