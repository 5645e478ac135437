use Rattle.std.proofs.Common.{◌≡◌, flat_map}
use Rattle.std.specs.List.{filter, range_with_len}
use Rattle.sl_law_meaning.specs.returns.Election.{has_list}
use Rattle.sl_count_texts.specs.Lines.{with_lines}
use Rattle.sl_table.specs.Stages.{list_entry}
use Rattle.sl_table.proofs.stage_form.land_lists.Given as goal

abbrev pub invariant-loop-party : goal.invariant-loop-party
invariant-loop-party l =
    l.text ≡ with_lines l.initial.text (flat_map (list_entry l.returns l.column l.land) (filter (has_list l.returns l.land) (range_with_len 0 l.party)))
