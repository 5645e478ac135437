use Rattle.std.proofs.Common.{◌++◌, codes, take}
use Rattle.std.specs.List.{flat_map}
use Rattle.sl_report_forms.specs.Drafts.{Grows}
use Rattle.sl_report_forms.specs.MarkdownForm.{side_of}
use Rattle.sl_report_forms.proofs.markdown_form.put_sides.Given as goal

abbrev pub invariant-loop-column : goal.invariant-loop-column
invariant-loop-column l = Grows l.fn.out l.out (codes "|" ++ flat_map (λ column. side_of column.look) (take l.column-index l.columns))
