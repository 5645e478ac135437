use Rattle.sl_law_certificates.proofs.Splits.{splits_are_shown}
use Rattle.sl_law_certificates.proofs.laws.splits_are_shown.Goals as goal

pub returns : goal.returns
returns c = splits_are_shown
