use Rattle.sl_compile_pieces.proofs.exprs.Stages.{stages_achieve}
use Rattle.sl_compile_pieces.proofs.laws.exprs.stages_achieve.Goals as goal

pub returns : goal.returns
returns c = stages_achieve
