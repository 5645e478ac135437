use Rattle.std.proofs.Common.{◌≡◌, ◌≤◌, [], ◌∷◌, ◌++◌, codes, Some, option_map, string_bytes, sym, subst}
use Rattle.std.proofs.lemmas.Result.{IfOk-weaker}
use Rattle.serde_json.specs.Data.{depth}
use Rattle.serde_json.specs.Read.{max_depth}
use Rattle.serde_json.specs.View.{view}
use Rattle.sl_report_forms.specs.JsonForm.{IsLineOf, Puts, heading_members, report_value, tables_value}
use Rattle.sl_report_forms.proofs.JsonDepths.{of_report}
use Rattle.sl_report_forms.proofs.JsonFilling.{Puts-more, Puts-made, object-made}
use Rattle.sl_report_forms.proofs.json_form.json_text.Goals as goal

pub returns : goal.returns
returns c =
    let heading = c.put_heading.ensures in
    let line = option_map (λ l. l.now) c.args.line in
    let names = c.args.names.now in
    let sheets = c.args.sheets.now in
    let said = heading_members c.args.heading.now c.args.status line heading.0 in
    let with_heading : Puts (Some []) c.put_heading.new.members said = subst (λ o. Puts o c.put_heading.new.members said) c.new-members.ensures heading.2 in
    let with_tables = Puts-made c.put_heading.new.members c.put.new.self (codes "tables") c.tables.result (tables_value names sheets) c.put.ensures.made c.put.ensures.missing c.tables.ensures in
    let is : view c.in_ok-finished.field-0 ≡ report_value said names sheets =
    object-made c.put.new.self (said ++ (codes "tables", tables_value names sheets) ∷ []) (view c.in_ok-finished.field-0)
    (Puts-more (Some []) c.put_heading.new.members c.put.new.self said ((codes "tables", tables_value names sheets) ∷ []) with_heading with_tables) c.in_ok-finished.ensures.ok in
    IfOk-weaker c.line_of.result _ _
    (λ t h. (heading.0, heading.1, subst (λ d. IsLineOf d (string_bytes t)) is (h (subst (λ d. depth d ≤ max_depth) (sym is) (of_report c.args.heading.now c.args.status line heading.0 names sheets heading.1)))))
    c.line_of.ensures
