use Rattle.sl_compile_pieces.proofs.covers.Covering.{coverings_achieve}
use Rattle.sl_compile_pieces.proofs.laws.covers.coverings_achieve.Goals as goal

pub returns : goal.returns
returns c = coverings_achieve
