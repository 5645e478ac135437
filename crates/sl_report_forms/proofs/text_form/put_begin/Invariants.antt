use Rattle.sl_report_forms.proofs.TextLaws.{BeginSoFar}
use Rattle.sl_report_forms.proofs.text_form.put_begin.Given as goal

abbrev pub invariant-loop-character : goal.invariant-loop-character
invariant-loop-character l = BeginSoFar l.most l.left l.text l.character-iterator.rest.now l.fn.out l.out
