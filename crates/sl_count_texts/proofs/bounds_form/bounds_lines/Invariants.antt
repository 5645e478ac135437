use Rattle.std.proofs.Common.{◌≡◌, flat_map, map, take}
use Rattle.sl_count_texts.specs.Bounds.{bounds_line}
use Rattle.sl_count_texts.specs.Lines.{with_lines}
use Rattle.sl_count_texts.proofs.bounds_form.bounds_lines.Given as goal

abbrev pub invariant-loop-bounds : goal.invariant-loop-bounds
invariant-loop-bounds l =
    l.text ≡ with_lines l.initial.text (flat_map (bounds_line (map (λ s. s.name) l.code.stages) l.returns) (take l.bounds-index l.bounds-items))
