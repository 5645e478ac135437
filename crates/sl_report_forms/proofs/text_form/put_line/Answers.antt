use Rattle.std.proofs.Common.{◌∙◌, ◌++◌, ap, arith, map, string_bytes}
use Rattle.std.specs.Char.{encode_utf8}
use Rattle.std.specs.Str.{trim_end}
use Rattle.std.proofs.lemmas.Str.{encode_ascii}
use Rattle.sl_report_forms.specs.TextForm.{padded_line}
use Rattle.sl_report_forms.proofs.ShownSteps.{grow_as, grow_more}
use Rattle.sl_report_forms.proofs.text_form.put_line.Goals as goal

pub returns : goal.returns
returns c =
    grow_as _ _ _ _ (grow_more _ _ _ _ _ c.push_str.ensures c.push.ensures) (
    ap (λ xs. xs ++ encode_utf8 10) (c.trim_end.ensures.trim ∙ ap trim_end (c.as_str.ensures.value ∙ c.in_ok-padded.ensures))
    ∙ ap (λ xs. trim_end (padded_line c.args.columns.now (map string_bytes c.args.line.now)) ++ xs) (encode_ascii 10 (omega arith)))
