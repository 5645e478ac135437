use Rattle.std.proofs.Common.{◌≡◌, ◌++◌, [], IfOk, string_bytes, subst, sym}
use Rattle.std.specs.Prelude.{option_map}
use Rattle.std.proofs.lemmas.Simd.{map-map}
use Rattle.sl_report_forms.specs.MarkdownForm.{fault_blocks, joined, markdown_block}
use Rattle.sl_report_forms.specs.Shown.{view_in}
use Rattle.sl_report_forms.proofs.MarkdownLaws.{blocks_text}
use Rattle.sl_report_forms.proofs.ShownSteps.{grow_none}
use Rattle.sl_report_forms.proofs.markdown_form.markdown_text.Goals as goal
use Rattle.sl_report_forms.proofs.markdown_form.markdown_text.Goals.{in-Some, in_default}

pub returns : goal.returns
returns c =
    subst (λ blocks. IfOk c.finished.result (λ t. string_bytes t ≡ joined (fault_blocks (option_map (λ l. l.now) c.args.line) ++ blocks))) (sym (map-map markdown_block view_in c.args.sheets.now)) (
    elim c.match-line.branch [
      | in-Some w ↦ rw w.in-Some.is (blocks_text c.finished.result c.new-out.result _ _ _ _ c.new-out.ensures w.put_fault.ensures (rw w.out-is at c.put_sheets.ensures) c.finished.ensures.ok)
      | in_default w ↦ rw w.in_default.is (blocks_text c.finished.result c.new-out.result _ _ [] _ c.new-out.ensures (grow_none c.new-out.result) (rw w.out-is at c.put_sheets.ensures) c.finished.ensures.ok)
    ])
