use Rattle.sl_count_calls.proofs.Delivering.{delivers_text}
use Rattle.sl_count_calls.proofs.showing.written.Goals as goal
use Rattle.sl_count_calls.specs.Views.{IsAnswerOf}

pub returns-clause-delivers : goal.returns-clause-delivers
returns-clause-delivers g c =
    delivers_text (IsAnswerOf c.args.view c.args.judged.now) c.in_ok-answer.answer.status c.in_ok-answer.answer.text.items (g.W.Sink.contents c.args.out.now)
    (g.W.Sink.contents c.deliver.new.out) c.deliver.result c.in_ok-answer.ensures.output c.deliver.ensures.delivers
