use Rattle.std.proofs.Common.{◌≡◌, flat_map, take}
use Rattle.sl_law_meaning.specs.returns.Facts.{lands}
use Rattle.sl_count_texts.specs.Lines.{with_lines}
use Rattle.sl_table.specs.Stages.{land_lists}
use Rattle.sl_table.proofs.stage_form.list_lines.Given as goal

abbrev pub invariant-loop-land : goal.invariant-loop-land
invariant-loop-land l =
    l.text ≡ with_lines l.initial.text (flat_map (land_lists l.returns l.column) (take l.land (lands l.returns)))
