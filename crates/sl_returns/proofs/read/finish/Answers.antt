-- The first record that is refused is the one for which the records are.
use Rattle.sl_returns.proofs.Answered.{are_refused, none_refused}
use Rattle.sl_returns.proofs.read.finish.Goals as goal

pub returns-in-Some-clause-err : goal.returns-in-Some-clause-err
returns-in-Some-clause-err c rs s = are_refused c.args.builder c.args.refusals rs s c.refused_for.result c.in-Some.first c.in-Some.is c.refused_for.ensures.fault c.refused_for.ensures.fields

pub returns-in-None-clause-err : goal.returns-in-None-clause-err
returns-in-None-clause-err c rs s = c.finish_taken.ensures.err rs (none_refused c.args.builder c.args.refusals rs s c.in-None.is)

pub returns-in-None-clause-ok : goal.returns-in-None-clause-ok
returns-in-None-clause-ok c rs s = c.finish_taken.ensures.ok rs (none_refused c.args.builder c.args.refusals rs s c.in-None.is)
