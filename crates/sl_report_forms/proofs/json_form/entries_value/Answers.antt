use Rattle.std.proofs.Common.{arith}
use Rattle.std.proofs.lemmas.Grind.{common_steps}
use Rattle.std.proofs.lemmas.List.{take_all}
use Rattle.sl_report_forms.proofs.json_form.entries_value.Goals as goal

pub returns : goal.returns
returns c = let whole = take_all c.loop-entry.entry-index c.args.entries.now c.loop-entry-test.false in grind (arith, common_steps, whole)
