use Rattle.sl_law_certificates.proofs.CutLaws.{choices_are_shown}
use Rattle.sl_law_certificates.proofs.laws.choices_are_shown.Goals as goal

pub returns : goal.returns
returns c = choices_are_shown
