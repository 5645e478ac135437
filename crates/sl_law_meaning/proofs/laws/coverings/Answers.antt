use Rattle.sl_law_meaning.proofs.methods.CoveringProofs.{coverings, full_coverings}
use Rattle.sl_law_meaning.proofs.laws.coverings.Goals as goal

pub returns-clause-well_defined : goal.returns-clause-well_defined
returns-clause-well_defined c = coverings

pub returns-clause-full : goal.returns-clause-full
returns-clause-full c = full_coverings
