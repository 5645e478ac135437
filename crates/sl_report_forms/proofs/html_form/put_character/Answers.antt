use Rattle.std.proofs.Common.{sym}
use Rattle.sl_report_forms.specs.HtmlForm.{html_byte}
use Rattle.sl_report_forms.proofs.HtmlLaws.{html_plain}
use Rattle.sl_report_forms.proofs.ShownSteps.{grow_as, plain_char}
use Rattle.sl_report_forms.proofs.html_form.put_character.Goals as goal

pub returns-in-None : goal.returns-in-None
returns-in-None c = grow_as _ _ _ _ c.push.ensures (sym (plain_char html_byte html_plain c.args.character c.in-None.ensures))
