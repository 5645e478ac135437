-- The first record that is refused is the one for which the records are.
use Rattle.std.proofs.Common.{inr}
use Rattle.std.proofs.lemmas.Result.{IfErr-weaker}
use Rattle.sl_returns.proofs.read.read_or_refuse.Goals as goal

pub returns-in-Ok-clause-err : goal.returns-in-Ok-clause-err
returns-in-Ok-clause-err c = IfErr-weaker c.finish.result _ _ (λ r refused. inr refused) (c.finish.ensures.err _ c.in-Ok.ensures)
