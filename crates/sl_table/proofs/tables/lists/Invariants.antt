use Rattle.std.proofs.Common.{◌≡◌, map}
use Rattle.std.specs.List.{filter, flat_map, range_with_len}
use Rattle.sl_law_meaning.specs.returns.Election.{has_list}
use Rattle.sl_law_meaning.specs.returns.Facts.{parties}
use Rattle.sl_code_semantics.specs.Tables.{held_line}
use Rattle.sl_table.proofs.tables.lists.Given as goal

abbrev pub invariant-loop-land : goal.invariant-loop-land
invariant-loop-land l =
    let e = l.returns in
    l.lists.items ≡ flat_map (λ land. map (held_line e l.memory land) (filter (has_list e land) (parties e))) (range_with_len 0 l.land)
