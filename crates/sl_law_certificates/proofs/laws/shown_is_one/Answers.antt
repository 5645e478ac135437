use Rattle.sl_law_certificates.proofs.Meant.{shown_is_one}
use Rattle.sl_law_certificates.proofs.laws.shown_is_one.Goals as goal

pub returns : goal.returns
returns c = shown_is_one
