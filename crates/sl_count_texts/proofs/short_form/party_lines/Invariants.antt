use Rattle.std.proofs.Common.{◌≡◌, flat_map, take}
use Rattle.sl_law_meaning.specs.returns.Facts.{parties}
use Rattle.sl_count_texts.specs.Lines.{with_lines}
use Rattle.sl_count_texts.specs.Short.{party_line}
use Rattle.sl_count_texts.proofs.short_form.party_lines.Given as goal

abbrev pub invariant-loop-party : goal.invariant-loop-party
invariant-loop-party l =
    l.text ≡ with_lines l.initial.text (flat_map (party_line l.table l.returns) (take l.party (parties l.returns)))
