use Rattle.sl_desk.proofs.Order.{has_texts, judged_known, reads_after_code}
use Rattle.sl_desk.proofs.calls.run.judge_run.Goals as goal

pub returns-in-Good-clause-judged : goal.returns-in-Good-clause-judged
returns-in-Good-clause-judged g c =
    judged_known c.in-Good.code (g.C.Source.remaining c.args.code.now) (g.R.Source.remaining c.args.returns.now) c.read_on.result
    (rw c.in-Good.is at c.in_ok-file.ensures.verdict) c.read_on.ensures.judged

pub returns-in-Good-clause-returns : goal.returns-in-Good-clause-returns
returns-in-Good-clause-returns g c =
    reads_after_code g.R.Source.remaining (g.C.Source.remaining c.args.code.now) c.in-Good.code c.args.returns.now c.read_on.new.returns
    (g.R.Source.failed c.args.returns.now) (g.R.Source.failed c.read_on.new.returns) c.read_on.result
    (rw c.in-Good.is at c.in_ok-file.ensures.verdict) c.read_on.ensures.limited c.read_on.ensures.failures

pub returns-in-Good-clause-text : goal.returns-in-Good-clause-text
returns-in-Good-clause-text g c =
    has_texts (g.C.Source.remaining c.args.code.now) (g.R.Source.remaining c.args.returns.now) c.in_ok-file.field-0.file.items c.read_on.result
    c.in_ok-file.ensures.text c.read_on.ensures.file c.read_on.ensures.text
