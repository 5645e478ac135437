use Rattle.std.proofs.Common.{Bor, List, map, option_map, subst, ◌∙◌, ℕ}
use Rattle.std.proofs.lemmas.Result.{IfOk-weaker}
use Rattle.sl_report_commands.specs.Written.{json_digests}
use Rattle.sl_terminal_commands.proofs.Columns.{compared_on}
use Rattle.sl_terminal_commands.proofs.commands.Commands.report_comparison.Goals as goal
use Rattle.sl_terminal_commands.specs.inner.Comparing.{IsComparedAnswer}
use Rattle.sl_terminal_commands.specs.inner.Digested.{called_digests}

pub returns-in-Ok : goal.returns-in-Ok
returns-in-Ok g c =
    let text = g.F.Forms.is_text c.args.forms.now in
    let bytes = g.O.Outside.bytes c.args.self.now.outside.now in
    let w = c.args.writing in
    let names = option_map (λ (path : Bor (List ℕ)). path.now) w.names in
    let given = map (λ (word : Bor (List ℕ)). word.now) c.args.books.now in
    let words = map (λ (word : Bor (List ℕ)). word.now) c.args.methods.now in
    let r = c.in-Ok.read in
    let methods = c.as_slice-methods.ensures.value ∙ c.in_ok-methods.ensures in
    IfOk-weaker c.compare_words-answered.result _ _
    (
    λ a h.
    compared_on bytes text w.style c.args.returns.now names h.2.0 h.2.1 given words h.0 r h.1.0 h.1.1 c.in-Ok.ensures a
    (subst (λ ms. IsComparedAnswer text w.style (json_digests w.style (called_digests h.0 r)) h.2.0 h.0 ms r.read.verdict a) methods h.2.2)
    )
    c.compare_words-answered.ensures
