use Rattle.sl_law_meaning.proofs.meaning.CoveredWinners.{covered_winners}
use Rattle.sl_law_meaning.proofs.meaning.PlacedWinners.{kept_winners}
use Rattle.sl_law_meaning.proofs.laws.meaning.placed_winners.Goals as goal

pub returns-clause-kept : goal.returns-clause-kept
returns-clause-kept c = kept_winners

pub returns-clause-covered : goal.returns-clause-covered
returns-clause-covered c = covered_winners
