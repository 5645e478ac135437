use Rattle.sl_compile_pieces.proofs.facts.Eligible.{eligible_are_told}
use Rattle.sl_compile_pieces.proofs.laws.facts.eligible_are_told.Goals as goal

pub returns : goal.returns
returns c = eligible_are_told
