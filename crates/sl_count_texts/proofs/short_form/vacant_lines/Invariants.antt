use Rattle.std.proofs.Common.{◌≡◌, flat_map, take}
use Rattle.sl_count_texts.specs.Lines.{with_lines}
use Rattle.sl_count_texts.specs.Short.{vacant_line}
use Rattle.sl_count_texts.proofs.short_form.vacant_lines.Given as goal

abbrev pub invariant-loop-list : goal.invariant-loop-list
invariant-loop-list l =
    l.text ≡ with_lines l.initial.text (flat_map (vacant_line l.returns) (take l.list-index l.list-items))
