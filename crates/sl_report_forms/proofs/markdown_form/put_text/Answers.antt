use Rattle.std.specs.Char.{encode_utf8}
use Rattle.sl_report_forms.specs.MarkdownForm.{markdown_byte}
use Rattle.sl_report_forms.proofs.ShownSteps.{so_far_more}
use Rattle.sl_report_forms.proofs.markdown_form.put_text.Goals as goal

pub loop-character-preserved : goal.loop-character-preserved
loop-character-preserved c = so_far_more markdown_byte _ _ _ (encode_utf8 c.in-Some.character) _ _ _ c.loop-character.invariant c.in-Some.ensures.steps.0 c.put_character.ensures
