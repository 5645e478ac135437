use Rattle.sl_report_forms.specs.HtmlForm.{html_byte}
use Rattle.sl_report_forms.proofs.ShownSteps.{SoFar}
use Rattle.sl_report_forms.proofs.html_form.put_text.Given as goal

abbrev pub invariant-loop-character : goal.invariant-loop-character
invariant-loop-character l = SoFar html_byte l.text l.character-iterator.rest.now l.fn.out l.out
