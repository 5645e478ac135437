use Rattle.sl_law_certificates.proofs.Outcomes.{accepted_is_meant}
use Rattle.sl_law_certificates.proofs.laws.accepted_is_meant.Goals as goal

pub returns : goal.returns
returns c = accepted_is_meant
