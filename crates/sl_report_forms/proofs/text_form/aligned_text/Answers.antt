use Rattle.std.proofs.Common.{◌≡◌, IfOk, rules, string_bytes, subst, sym}
use Rattle.std.proofs.lemmas.Simd.{map-map}
use Rattle.sl_report_forms.specs.MarkdownForm.{joined}
use Rattle.sl_report_forms.specs.Shown.{view_in}
use Rattle.sl_report_forms.specs.TextForm.{aligned_block}
use Rattle.sl_report_forms.proofs.text_form.aligned_text.Goals as goal

pub returns : goal.returns
returns c = subst (λ blocks. IfOk c.and.result (λ t. string_bytes t ≡ joined blocks)) (sym (map-map aligned_block view_in c.args.sheets.now)) (search rules)
