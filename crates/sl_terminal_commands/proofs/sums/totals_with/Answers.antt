use Rattle.std.proofs.Common.{Bor, List, Option, is_err, option_map, subst, ℕ}
use Rattle.std.specs.Prelude.{codes}
use Rattle.sl_count_inputs.specs.declared.refused_book.RefusedBook.{RefusedBook}
use Rattle.sl_count_inputs.specs.declared.verdict.Verdict.{Verdict}
use Rattle.sl_law_meaning.specs.declared.checked.CheckedBook.{CheckedBook}
use Rattle.sl_report_commands.specs.Summaries.{IsTotalsBy}
use Rattle.sl_report_commands.specs.Written.{IsWritten, json_digests, totals_subject}
use Rattle.sl_report_commands.specs.inner.Digested.{totals_digested}
use Rattle.sl_terminal_commands.proofs.Reported.{totals_answer}
use Rattle.sl_terminal_commands.proofs.sums.totals_with.Goals as goal
use Rattle.sl_terminal_commands.specs.Said.{IsSaid, said_of}
use Rattle.sl_terminal_commands.specs.declared.sums.NamedBook.{NamedBook}
use Rattle.sl_terminal_commands.specs.inner.Totals.{bytes_in}

pub returns-in-Ok : goal.returns-in-Ok
returns-in-Ok g c =
    let text = g.F.Forms.is_text c.args.forms.now in
    let style = c.args.style in
    let w = c.in_ok-written.written in
    let r = c.args.returns.now in
    let book = option_map (λ (b : Bor NamedBook). b.now) c.args.book in
    let refused = is_err c.args.names.now in
    let texts = c.texts_of-texts in
    let verdict = option_map (λ (v : Bor (Verdict CheckedBook RefusedBook)). v.now) c.verdict_of-verdict.result in
    let shows = λ (b : Option (Verdict CheckedBook RefusedBook)) (one other : List ℕ).
    IsWritten text (codes "totals") style (json_digests style (totals_digested b r.read.verdict one other)) w.answer w.text.items in
    let told = subst (λ s. IsSaid style.language (said_of s) c.in-Ok.said.items) c.in_ok-written.ensures.told c.in-Ok.ensures in
    totals_answer text refused book r style c.reported.result w c.in-Ok.said c.reported.ensures.status c.reported.ensures.text c.reported.ensures.said
    (subst (λ b. IsTotalsBy refused b r.read.verdict w.answer) c.verdict_of-verdict.ensures c.in_ok-written.ensures.totals)
    (
    subst (λ b. shows b (bytes_in book) r.read.text.items) c.verdict_of-verdict.ensures
    (subst (λ one. shows verdict one r.read.text.items) texts.ensures.book (subst (λ other. shows verdict texts.result.book.now other) texts.ensures.returns c.in_ok-written.ensures.text))
    )
    (subst (λ b. IsSaid style.language (said_of (totals_subject b r.read.verdict)) c.in-Ok.said.items) c.verdict_of-verdict.ensures told)
