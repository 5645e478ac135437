use Rattle.std.proofs.Common.{◌+◌, ◌*◌, ◌/◌, replicate}
use Rattle.sl_report_forms.specs.Drafts.{Grows}
use Rattle.sl_report_forms.proofs.text_form.put_blanks.Given as goal

abbrev pub invariant-loop : goal.invariant-loop
invariant-loop l = Grows l.fn.out l.out (replicate (8 * l.counter) 32)

abbrev pub invariant-loop-2 : goal.invariant-loop-2
invariant-loop-2 l = Grows l.fn.out l.out (replicate (8 * (l.fn.count / 8) + l.counter) 32)
