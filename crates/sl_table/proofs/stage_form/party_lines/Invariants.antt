use Rattle.std.proofs.Common.{◌≡◌, flat_map, take}
use Rattle.sl_law_meaning.specs.returns.Facts.{parties}
use Rattle.sl_count_texts.specs.Lines.{with_lines}
use Rattle.sl_table.specs.Stages.{party_entry}
use Rattle.sl_table.proofs.stage_form.party_lines.Given as goal

abbrev pub invariant-loop-party : goal.invariant-loop-party
invariant-loop-party l =
    l.text ≡ with_lines l.initial.text (flat_map (party_entry l.returns l.column) (take l.party (parties l.returns)))
