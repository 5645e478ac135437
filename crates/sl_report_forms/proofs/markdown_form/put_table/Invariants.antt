use Rattle.std.proofs.Common.{◌++◌, map, string_bytes, take}
use Rattle.std.specs.List.{flat_map}
use Rattle.sl_report_forms.specs.Drafts.{Grows}
use Rattle.sl_report_forms.specs.MarkdownForm.{markdown_line, markdown_sides}
use Rattle.sl_report_forms.proofs.markdown_form.put_table.Given as goal

abbrev pub invariant-loop-row : goal.invariant-loop-row
invariant-loop-row l =
    Grows l.fn.out l.out (
    (markdown_line (map string_bytes l.shown.titles.items) ++ markdown_sides l.shown.columns.items)
    ++ flat_map markdown_line (map (λ row. map string_bytes row.items) (take l.row-index l.shown.rows.items)))
