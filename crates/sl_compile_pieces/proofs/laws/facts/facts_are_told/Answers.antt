use Rattle.sl_compile_pieces.proofs.facts.Facts.{facts_are_told}
use Rattle.sl_compile_pieces.proofs.laws.facts.facts_are_told.Goals as goal

pub returns : goal.returns
returns c = facts_are_told
