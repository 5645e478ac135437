use Rattle.std.proofs.Common.{is_err, subst}
use Rattle.sl_report_commands.specs.inner.Digested.{IsCountWritten}
use Rattle.sl_terminal_commands.proofs.Reported.{report_answer}
use Rattle.sl_terminal_commands.proofs.reports.report_with.Goals as goal
use Rattle.sl_terminal_commands.specs.Said.{IsSaid, report_said}
use Rattle.sl_terminal_commands.specs.inner.Digested.{word_bytes}

pub returns-in-Ok : goal.returns-in-Ok
returns-in-Ok g c =
    let text = g.F.Forms.is_text c.args.forms.now in
    let read = c.args.read.now in
    let word = c.args.paths.book.now in
    let style = c.args.style in
    let w = c.in_ok-written.written in
    report_answer text c.args.show (is_err c.args.names.now) word read style c.reported.result w c.in-Ok.said c.reported.ensures.status
    c.reported.ensures.text c.reported.ensures.said c.in_ok-written.ensures.shown
    (subst (λ b. IsCountWritten text c.args.show style read.judged (word_bytes word b) read.returns.items w.answer w.text.items) c.as_slice.ensures.value
    (subst (λ b. IsCountWritten text c.args.show style read.judged b read.returns.items w.answer w.text.items) c.book_bytes.ensures
    (subst (λ r. IsCountWritten text c.args.show style read.judged c.book_bytes.result.now r w.answer w.text.items) c.as_slice-2.ensures.value c.in_ok-written.ensures.text)))
    (subst (λ b. IsSaid style.language (report_said b read.judged) c.in-Ok.said.items) c.is_err.ensures.value c.in-Ok.ensures)
