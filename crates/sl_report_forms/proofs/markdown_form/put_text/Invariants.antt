use Rattle.sl_report_forms.specs.MarkdownForm.{markdown_byte}
use Rattle.sl_report_forms.proofs.ShownSteps.{SoFar}
use Rattle.sl_report_forms.proofs.markdown_form.put_text.Given as goal

abbrev pub invariant-loop-character : goal.invariant-loop-character
invariant-loop-character l = SoFar markdown_byte l.text l.character-iterator.rest.now l.fn.out l.out
