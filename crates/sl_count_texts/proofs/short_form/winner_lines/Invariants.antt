use Rattle.std.proofs.Common.{◌≡◌, flat_map, take}
use Rattle.std.specs.List.{zip}
use Rattle.sl_count_texts.specs.Lines.{with_lines}
use Rattle.sl_count_texts.specs.Short.{winner_line}
use Rattle.sl_count_texts.proofs.short_form.winner_lines.Given as goal

abbrev pub invariant-loop-win : goal.invariant-loop-win
invariant-loop-win l =
    l.text ≡ with_lines l.initial.text (flat_map winner_line (take l.win (zip l.returns.win_names l.place-items)))
