use Rattle.std.proofs.Common.{◌≡◌, IfSome, map, string_bytes, take}
use Rattle.sl_report_forms.specs.Shown.{texts_in}
use Rattle.sl_report_forms.proofs.shown.shown_rows.Given as goal

abbrev pub invariant-loop-row : goal.invariant-loop-row
invariant-loop-row l = IfSome l.rows (λ rs. map (λ r. map string_bytes r.items) rs ≡ map (λ r. texts_in l.language l.names l.columns r.items) (take l.row-index l.sheet.rows.items))
