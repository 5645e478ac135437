use Rattle.std.proofs.Common.{map, string_bytes, take}
use Rattle.sl_report_forms.specs.Drafts.{Grows}
use Rattle.sl_report_forms.specs.TextForm.{padded_line}
use Rattle.sl_report_forms.proofs.text_form.put_texts.Given as goal

abbrev pub invariant-loop-place : goal.invariant-loop-place
invariant-loop-place l = Grows l.fn.out l.out (padded_line (take l.place l.columns) (map string_bytes l.line))
