use Rattle.sl_compile.proofs.Easier.{first_easier, second_easier}
use Rattle.std.proofs.Common.{arith}
use Rattle.sl_compile.proofs.conditions.easier_share.Goals as goal

pub returns-then-first-second-clause-same : goal.returns-then-first-second-clause-same
returns-then-first-second-clause-same c = λ e party. first_easier e party c.args.first c.args.second (omega (arith, c.requires.second)) c.if-first-second.true

pub returns-else-first-second-clause-same : goal.returns-else-first-second-clause-same
returns-else-first-second-clause-same c = λ e party. second_easier e party c.args.first c.args.second (omega (arith, c.requires.first)) (omega arith)
