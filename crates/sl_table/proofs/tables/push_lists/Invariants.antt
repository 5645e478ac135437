use Rattle.std.proofs.Common.{◌≡◌, ◌++◌, map}
use Rattle.std.specs.List.{filter, range_with_len}
use Rattle.sl_law_meaning.specs.returns.Election.{has_list}
use Rattle.sl_code_semantics.specs.Tables.{held_line}
use Rattle.sl_table.proofs.tables.push_lists.Given as goal

abbrev pub invariant-loop-party : goal.invariant-loop-party
invariant-loop-party l =
    let e = l.returns in
    l.lists.items ≡ l.initial.lists.items ++ map (held_line e l.memory l.land) (filter (has_list e l.land) (range_with_len 0 l.party))
