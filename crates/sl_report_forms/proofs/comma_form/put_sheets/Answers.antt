use Rattle.std.proofs.Common.{◌≡◌, ◌+◌, ◌++◌, ◌∷◌, [], arith, take}
use Rattle.std.proofs.lemmas.Grind.{common_steps}
use Rattle.sl_report_forms.proofs.CommaWriting.{records-more}
use Rattle.sl_report_forms.proofs.comma_form.put_sheets.Goals as goal

pub loop-number-preserved : goal.loop-number-preserved
loop-number-preserved c =
    let sheet = c.index-sheets-number.result in
    let before = take c.loop-number.number c.args.sheets.now in
    let front : take (c.loop-number.number + 1) c.args.sheets.now ≡ before ++ sheet ∷ [] = grind (arith, common_steps) in
    rw (front, records-more c.args.names.now [] before sheet) (grind (arith, common_steps))
