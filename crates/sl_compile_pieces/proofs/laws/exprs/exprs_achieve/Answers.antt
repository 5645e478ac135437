use Rattle.sl_compile_pieces.proofs.exprs.Expressions.{exprs_achieve}
use Rattle.sl_compile_pieces.proofs.laws.exprs.exprs_achieve.Goals as goal

pub returns : goal.returns
returns c = exprs_achieve
