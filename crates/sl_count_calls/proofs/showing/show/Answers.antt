use Rattle.std.proofs.Common.{Err, Ok, refl}
use Rattle.sl_count_calls.proofs.AnyInputs.{delivers_as, is_for, known_shown, no_read, same_error, shown_reads}
use Rattle.sl_count_calls.proofs.showing.show.Goals as goal
use Rattle.sl_count_calls.specs.Shows.{IsShownOutput}
use Rattle.sl_count_calls.specs.Views.{IsAnswerOf}
use Rattle.sl_count_inputs.specs.Reading.{ForKnown, book_input}

pub written-requires : goal.written-requires
written-requires g c = record { made = is_for c.args.view c.in-Ok.read.judged (rw c.records.ensures at c.in-Ok.ensures.fits) }

pub returns-in-Ok-written-clause-delivers : goal.returns-in-Ok-written-clause-delivers
returns-in-Ok-written-clause-delivers g c =
    delivers_as (IsAnswerOf c.args.view c.in-Ok.read.judged)
    (λ status text. ForKnown (book_input g.B.Source.remaining c.args.book.now) (g.R.Source.remaining c.args.returns.now) (λ input bytes. IsShownOutput c.args.view input bytes status text))
    (λ status text shown.
    known_shown c.args.view c.in-Ok.read.judged (book_input g.B.Source.remaining c.args.book.now) (g.R.Source.remaining c.args.returns.now) status text
    (rw (c.records.ensures, c.stage.ensures) at c.in-Ok.ensures.judged) shown)
    (g.W.Sink.contents c.args.out.now) (g.W.Sink.contents c.written.new.out) (Ok c.in-Ok-written.status) (rw c.in-Ok-written.is at c.written.ensures.delivers)

pub returns-in-Err-written-clause-delivers : goal.returns-in-Err-written-clause-delivers
returns-in-Err-written-clause-delivers g c =
    delivers_as (IsAnswerOf c.args.view c.in-Ok.read.judged)
    (λ status text. ForKnown (book_input g.B.Source.remaining c.args.book.now) (g.R.Source.remaining c.args.returns.now) (λ input bytes. IsShownOutput c.args.view input bytes status text))
    (λ status text shown.
    known_shown c.args.view c.in-Ok.read.judged (book_input g.B.Source.remaining c.args.book.now) (g.R.Source.remaining c.args.returns.now) status text
    (rw (c.records.ensures, c.stage.ensures) at c.in-Ok.ensures.judged) shown)
    (g.W.Sink.contents c.args.out.now) (g.W.Sink.contents c.written.new.out) (Err c.in-Err-written.error) (rw c.in-Err-written.is at c.written.ensures.delivers)

pub returns-in-Ok-written-clause-returns : goal.returns-in-Ok-written-clause-returns
returns-in-Ok-written-clause-returns g c =
    shown_reads g.R.Source.remaining (book_input g.B.Source.remaining c.args.book.now) c.args.returns.now c.judge_read.new.returns c.judge_read.result _
    (λ i read. absurd cc) c.args.view (rw c.stage.ensures at c.judge_read.ensures.returns)

pub returns-in-Err-written-clause-returns : goal.returns-in-Err-written-clause-returns
returns-in-Err-written-clause-returns g c =
    shown_reads g.R.Source.remaining (book_input g.B.Source.remaining c.args.book.now) c.args.returns.now c.judge_read.new.returns c.judge_read.result _
    (no_read c.judge_read.result (Err c.in-Err-written.error) (rw c.in-Err-written.is at c.written.ensures.error)) c.args.view (rw c.stage.ensures at c.judge_read.ensures.returns)

pub returns-in-Err-clause-returns : goal.returns-in-Err-clause-returns
returns-in-Err-clause-returns g c =
    shown_reads g.R.Source.remaining (book_input g.B.Source.remaining c.args.book.now) c.args.returns.now c.judge_read.new.returns c.judge_read.result _
    (same_error c.in-Err.error c.judge_read.result (Err c.in-Err.error) c.in-Err.is refl) c.args.view (rw c.stage.ensures at c.judge_read.ensures.returns)
