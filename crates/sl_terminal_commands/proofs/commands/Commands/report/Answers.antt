use Rattle.std.proofs.Common.{Bor, List, Option, map, option_map, subst, sym, ◌∙◌, ◌≡◌, ℕ}
use Rattle.std.proofs.lemmas.Result.{IfOk-weaker}
use Rattle.std.specs.Prelude.{IfOk, Result}
use Rattle.sl_explain_texts.specs.declared.language.Language.{Language}
use Rattle.sl_report_commands.specs.declared.written.Style.{Style}
use Rattle.sl_report_forms.specs.declared.heading.Heading.{Heading}
use Rattle.sl_report_tables.specs.declared.answer.Answer.{Answer}
use Rattle.sl_report_forms.specs.declared.shape.Shape.{Shape}
use Rattle.sl_terminal_commands.proofs.Columns.{comparison_warns}
use Rattle.sl_terminal_commands.proofs.commands.Commands.report.Goals as goal
use Rattle.sl_terminal_commands.specs.Comparisons.{IsComparisonOf}
use Rattle.sl_terminal_commands.specs.Requests.{IsReported, style_of}
use Rattle.sl_terminal_commands.proofs.Warned.{quiet_warns}
use Rattle.sl_terminal_commands.specs.Said.{IsSaid}
use Rattle.sl_terminal_commands.specs.declared.answered.Answered.{Answered}
use Rattle.sl_terminal_words.specs.declared.reports.Report.{Report}

abbrev names_of : Option (Bor (List ℕ)) → Option (List ℕ)
names_of names = option_map (λ (path : Bor (List ℕ)). path.now) names

module _ {E : Type 0} (IsText : Shape → Heading → Answer → List ℕ → Type 0) (bytes : List ℕ → Option (List ℕ)) (names : Option (List ℕ)) (shape : Shape) (language : Language) (r : Result Answered E) where
  abbrev Output : Report → Type 0
  Output what = IfOk r (λ a. IsReported IsText bytes what names (style_of shape language) a.status a.text.items (λ s. IsSaid language s a.said.items))

  -- the output of what is asked for
  asked : (what q : Report) → what ≡ q → Output q → Output what
  asked what q is out = subst Output (sym is) out

pub returns-in-Seats-clause-output : goal.returns-in-Seats-clause-output
returns-in-Seats-clause-output g c =
    asked (g.F.Forms.is_text c.args.forms.now) (g.O.Outside.bytes c.args.self.now.outside.now) (names_of c.args.names) c.args.form c.args.self.now.language c.report_count.result _ _ c.in-Seats.is
    c.report_count.ensures.answer

pub returns-in-Steps-clause-output : goal.returns-in-Steps-clause-output
returns-in-Steps-clause-output g c =
    asked (g.F.Forms.is_text c.args.forms.now) (g.O.Outside.bytes c.args.self.now.outside.now) (names_of c.args.names) c.args.form c.args.self.now.language c.report_count-in-Steps.result _ _ c.in-Steps.is
    c.report_count-in-Steps.ensures.answer

pub returns-in-Count-clause-output : goal.returns-in-Count-clause-output
returns-in-Count-clause-output g c =
    asked (g.F.Forms.is_text c.args.forms.now) (g.O.Outside.bytes c.args.self.now.outside.now) (names_of c.args.names) c.args.form c.args.self.now.language c.report_count-in-Count.result _ _ c.in-Count.is
    c.report_count-in-Count.ensures.answer

pub returns-in-Short-clause-output : goal.returns-in-Short-clause-output
returns-in-Short-clause-output g c =
    asked (g.F.Forms.is_text c.args.forms.now) (g.O.Outside.bytes c.args.self.now.outside.now) (names_of c.args.names) c.args.form c.args.self.now.language c.report_count-in-Short.result _ _ c.in-Short.is
    c.report_count-in-Short.ensures.answer

pub returns-in-Stages-clause-output : goal.returns-in-Stages-clause-output
returns-in-Stages-clause-output g c =
    asked (g.F.Forms.is_text c.args.forms.now) (g.O.Outside.bytes c.args.self.now.outside.now) (names_of c.args.names) c.args.form c.args.self.now.language c.report_count-in-Stages.result _ _ c.in-Stages.is
    c.report_count-in-Stages.ensures.answer

pub returns-in-Compare-clause-done : goal.returns-in-Compare-clause-done
returns-in-Compare-clause-done g c =
    let bytes = g.O.Outside.bytes c.args.self.now.outside.now in
    IfOk-weaker c.report_comparison.result _ _
    (
    λ a h done.
    comparison_warns bytes c.in-Compare.returns.now _ h.is_refused h.answer c.args.self.now.language a.said.items h.means (sym h.status ∙ done)
    )
    c.report_comparison.ensures

pub returns-in-Compare-clause-output : goal.returns-in-Compare-clause-output
returns-in-Compare-clause-output g c =
    let text = g.F.Forms.is_text c.args.forms.now in
    let bytes = g.O.Outside.bytes c.args.self.now.outside.now in
    let language = c.args.self.now.language in
    let names = option_map (λ (path : Bor (List ℕ)). path.now) c.args.names in
    let words = map (λ (word : Bor (List ℕ)). word.now) c.in-Compare.methods.items in
    let given = map (λ (word : Bor (List ℕ)). word.now) c.in-Compare.books.items in
    let returns = c.in-Compare.returns.now in
    IfOk-weaker c.report_comparison.result _ _
    (
    λ a h.
    subst (λ q. IsReported text bytes q names (style_of c.args.form language) a.status a.text.items (λ s. IsSaid language s a.said.items)) (sym c.in-Compare.is)
    (
    subst (λ ws. IsComparisonOf text bytes returns (map (λ (word : Bor (List ℕ)). word.now) ws) words names (style_of c.args.form language) a.status a.text.items (λ s. IsSaid language s a.said.items)) c.as_slice.ensures.value
    (subst (λ ws. IsComparisonOf text bytes returns (map (λ (word : Bor (List ℕ)). word.now) c.as_slice.result.now) (map (λ (word : Bor (List ℕ)). word.now) ws) names (style_of c.args.form language) a.status a.text.items (λ s. IsSaid language s a.said.items)) c.as_slice-methods.ensures.value h)
    )
    )
    c.report_comparison.ensures

pub returns-in-Totals-clause-done : goal.returns-in-Totals-clause-done
returns-in-Totals-clause-done g c = quiet_warns c.report_totals.result c.args.self.now.language c.report_totals.ensures.done
