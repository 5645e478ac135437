use Rattle.sl_law_library.proofs.Counts.{missing_in_2023}
use Rattle.sl_law_library.proofs.laws.missing_in_2023.Goals as goal

pub returns : goal.returns
returns c = missing_in_2023
