use Rattle.std.proofs.Common.{◌≡◌, ◌∷◌, [], map, take}
use Rattle.csv.specs.Records.{fields_of, partial_of}
use Rattle.sl_report_forms.specs.Heads.{head_key}
use Rattle.sl_report_forms.proofs.comma_form.put_heads.Given as goal

abbrev pub invariant-loop-head : goal.invariant-loop-head
invariant-loop-head l =
    (fields_of l.fields ≡ l.fn.sheet.key.now ∷ map head_key (take l.head-index l.fn.sheet.heads.items)) × (partial_of l.fields ≡ [])
