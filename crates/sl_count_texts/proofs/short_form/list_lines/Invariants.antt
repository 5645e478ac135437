use Rattle.std.proofs.Common.{◌≡◌, flat_map, take}
use Rattle.sl_count_texts.specs.Lines.{with_lines}
use Rattle.sl_count_texts.specs.Short.{list_line}
use Rattle.sl_count_texts.proofs.short_form.list_lines.Given as goal

abbrev pub invariant-loop-list : goal.invariant-loop-list
invariant-loop-list l =
    l.text ≡ with_lines l.initial.text (flat_map (list_line l.returns) (take l.list-index l.list-items))
