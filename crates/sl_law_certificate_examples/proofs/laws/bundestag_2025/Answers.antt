use Rattle.sl_law_certificate_examples.proofs.Bundestag.{bundestag_2025}
use Rattle.sl_law_certificate_examples.proofs.laws.bundestag_2025.Goals as goal

pub returns : goal.returns
returns c = bundestag_2025
