use Rattle.std.proofs.Common.{IfSome}
use Rattle.sl_desk.specs.Compiling.{IsCompilingOutput}
use Rattle.sl_count_inputs.specs.Reading.{book_input}
use Rattle.sl_desk.proofs.Delivering.{delivers_texts}
use Rattle.sl_desk.proofs.calls.code.code.Goals as goal

pub returns-clause-delivers : goal.returns-clause-delivers
returns-clause-delivers g c =
    delivers_texts (λ status bytes text. IfSome (book_input g.B.Source.remaining c.args.book.now) (λ input. IsCompilingOutput input status bytes text))
    c.in_ok-compilation.compilation.answer.status c.in_ok-compilation.compilation.file.items c.in_ok-compilation.compilation.answer.text.items
    (g.F.Sink.failed c.args.file.now) (g.F.Sink.failed c.deliver.new.file)
    (g.F.Sink.contents c.args.file.now) (g.F.Sink.contents c.deliver.new.file) (g.W.Sink.contents c.args.out.now) (g.W.Sink.contents c.deliver.new.out) c.deliver.result
    c.in_ok-compilation.ensures.answer c.deliver.ensures.delivers
