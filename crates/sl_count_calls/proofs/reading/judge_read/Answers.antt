use Rattle.std.proofs.Common.{option_map, sym}
use Rattle.sl_count_calls.proofs.Order.{has_texts, judged_known, reads_after_good, refused_known}
use Rattle.sl_count_calls.proofs.reading.judge_read.Goals as goal
use Rattle.sl_count_inputs.specs.Reading.{book_input}
use Rattle.sl_law_meaning.specs.book.Books.{book_of}

pub returns-in-None-clause-judged : goal.returns-in-None-clause-judged
returns-in-None-clause-judged g c =
    judged_known (option_map (λ name. name.now) c.args.stage) (book_of c.in-Good.good.book) (sym (rw c.in-None.is at c.unknown.ensures)) c.args.records
    (book_input g.B.Source.remaining c.args.book.now) (g.R.Source.remaining c.args.returns.now) c.read_on.result
    (rw c.in-Good.is at c.in_ok-text.ensures.verdict) c.read_on.ensures.judged

pub returns-in-None-clause-returns : goal.returns-in-None-clause-returns
returns-in-None-clause-returns g c =
    reads_after_good (option_map (λ name. name.now) c.args.stage) (book_of c.in-Good.good.book) (sym (rw c.in-None.is at c.unknown.ensures)) g.R.Source.remaining
    (book_input g.B.Source.remaining c.args.book.now) c.args.returns.now c.read_on.new.returns (g.R.Source.failed c.args.returns.now) (g.R.Source.failed c.read_on.new.returns)
    c.read_on.result (rw c.in-Good.is at c.in_ok-text.ensures.verdict) c.read_on.ensures.limited c.read_on.ensures.failures

pub returns-in-None-clause-text : goal.returns-in-None-clause-text
returns-in-None-clause-text g c =
    has_texts (book_input g.B.Source.remaining c.args.book.now) (g.R.Source.remaining c.args.returns.now) c.in_ok-text.field-0.text.items c.read_on.result
    c.in_ok-text.ensures.text c.read_on.ensures.book c.read_on.ensures.text

pub returns-in-Refused-clause-judged : goal.returns-in-Refused-clause-judged
returns-in-Refused-clause-judged g c =
    refused_known c.args.records (option_map (λ name. name.now) c.args.stage) (book_input g.B.Source.remaining c.args.book.now) (g.R.Source.remaining c.args.returns.now)
    c.alone-in-Refused.result.judged c.in-Refused.refused c.alone-in-Refused.ensures.judged (rw c.in-Refused.is at c.in_ok-text.ensures.verdict)
    (rw c.in-Refused.is at c.in_ok-text.ensures.holds)
