use Rattle.std.proofs.Common.{Bor, List, option_map, sym, ◌∙◌, ℕ}
use Rattle.std.proofs.lemmas.Result.{IfOk-weaker}
use Rattle.sl_terminal_commands.proofs.Reported.{totals_done, totals_of_words}
use Rattle.sl_terminal_commands.proofs.commands.Commands.report_totals.Goals as goal
use Rattle.sl_terminal_commands.specs.inner.Totals.{verdict_in}

pub returns-in-Ok-clause-answer : goal.returns-in-Ok-clause-answer
returns-in-Ok-clause-answer g c =
    let word = option_map (λ (word : Bor (List ℕ)). word.now) c.args.book in
    let names = option_map (λ (path : Bor (List ℕ)). path.now) c.args.writing.names in
    IfOk-weaker c.totals_on-answered.result _ _
    (
    λ a h.
    totals_of_words (g.O.Outside.bytes c.args.self.now.outside.now) (g.F.Forms.is_text c.args.forms.now) c.args.returns.now word names h.0 c.args.writing.style c.in-Ok.read a h.1
    c.in-Ok.ensures h.2
    )
    c.totals_on-answered.ensures

pub returns-in-Ok-clause-done : goal.returns-in-Ok-clause-done
returns-in-Ok-clause-done g c =
    IfOk-weaker c.totals_on-answered.result _ _
    (
    λ a h done.
    totals_done h.0 (verdict_in h.2.0) c.in-Ok.read.read.verdict h.2.2.answer c.args.writing.style.language a.said.items h.2.2.shows (sym h.2.2.status ∙ done) h.2.2.said
    )
    c.totals_on-answered.ensures
