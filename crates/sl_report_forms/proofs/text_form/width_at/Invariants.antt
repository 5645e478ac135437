use Rattle.std.proofs.Common.{◌≡◌, ◌∷◌, map, string_bytes, take}
use Rattle.sl_report_forms.specs.TextForm.{widest}
use Rattle.sl_report_forms.proofs.text_form.width_at.Given as goal

abbrev pub invariant-loop-row : goal.invariant-loop-row
invariant-loop-row l = l.most ≡ widest l.place (map string_bytes l.titles ∷ map (λ r. map string_bytes r.items) (take l.row-index l.rows))
