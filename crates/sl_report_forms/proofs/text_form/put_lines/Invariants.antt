use Rattle.std.proofs.Common.{◌++◌, map, string_bytes, take}
use Rattle.std.specs.List.{flat_map}
use Rattle.sl_report_forms.specs.Drafts.{Grows}
use Rattle.sl_report_forms.specs.TextForm.{aligned_line}
use Rattle.sl_report_forms.proofs.text_form.put_lines.Given as goal

abbrev pub invariant-loop-row : goal.invariant-loop-row
invariant-loop-row l =
    Grows l.fn.out l.out (
    aligned_line l.columns (map string_bytes l.titles) ++ flat_map (aligned_line l.columns) (map (λ r. map string_bytes r.items) (take l.row-index l.rows)))
