use Rattle.std.proofs.Common.{◌∙◌, ap, sym}
use Rattle.std.specs.Char.{encode_utf8}
use Rattle.sl_report_forms.proofs.MarkdownLaws.{markdown_character}
use Rattle.sl_report_forms.proofs.ShownSteps.{grow_as}
use Rattle.sl_report_forms.proofs.markdown_form.put_character.Goals as goal

pub returns-else-is_mark : goal.returns-else-is_mark
returns-else-is_mark c =
    grow_as _ _ _ _ c.push-else-is_mark.ensures (ap encode_utf8 c.on_one_line.ensures ∙ sym (markdown_character c.args.character (sym c.is_mark.ensures ∙ c.if-is_mark.false)))
