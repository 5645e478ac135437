use Rattle.std.proofs.Common.{◌++◌, codes, map, string_bytes, take}
use Rattle.std.specs.List.{flat_map}
use Rattle.sl_report_forms.specs.Drafts.{Grows}
use Rattle.sl_report_forms.specs.MarkdownForm.{markdown_cell}
use Rattle.sl_report_forms.proofs.markdown_form.put_line.Given as goal

abbrev pub invariant-loop-text : goal.invariant-loop-text
invariant-loop-text l = Grows l.fn.out l.out (codes "|" ++ flat_map markdown_cell (map string_bytes (take l.text-index l.texts)))
