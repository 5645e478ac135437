use Rattle.sl_count_calls.proofs.AnyInputs.{delivers_as, no_read}
use Rattle.sl_desk.proofs.Order.{known_written, reads_on}
use Rattle.sl_desk.proofs.calls.run.run_code.Goals as goal
use Rattle.sl_desk.specs.JudgedRuns.{IsRunAnswer}
use Rattle.sl_desk.specs.Running.{IsRunCode}
use Rattle.sl_count_inputs.specs.Reading.{ForKnown}

pub returns-in-Ok-clause-delivers : goal.returns-in-Ok-clause-delivers
returns-in-Ok-clause-delivers g c =
    delivers_as (IsRunAnswer c.in-Ok.read.judged)
    (λ status text. ForKnown (g.C.Source.remaining c.args.code.now) (g.R.Source.remaining c.args.returns.now) (λ file bytes. IsRunCode file bytes status text))
    (λ status text written.
    known_written c.in-Ok.read.judged (g.C.Source.remaining c.args.code.now) (g.R.Source.remaining c.args.returns.now) status text c.in-Ok.ensures.judged written)
    (g.W.Sink.contents c.args.out.now) (g.W.Sink.contents c.written-ended.new.out) c.written-ended.result c.written-ended.ensures.delivers

pub returns-in-Ok-clause-returns : goal.returns-in-Ok-clause-returns
returns-in-Ok-clause-returns g c =
    reads_on g.R.Source.remaining (g.C.Source.remaining c.args.code.now) c.args.returns.now c.judge_run.new.returns c.judge_run.result c.written-ended.result
    (no_read c.judge_run.result c.written-ended.result c.written-ended.ensures.error) c.judge_run.ensures.returns
