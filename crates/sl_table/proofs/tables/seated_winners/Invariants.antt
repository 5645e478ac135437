use Rattle.std.proofs.Common.{◌*◌}
use Rattle.std.specs.List.{zip}
use Rattle.sl_law_meaning.specs.returns.Election.{lands_of, parties_of}
use Rattle.sl_count_texts.proofs.Counting.{Counts}
use Rattle.sl_table.proofs.SeatedWinners.{counts_at}
use Rattle.sl_table.proofs.tables.seated_winners.Given as goal

abbrev pub invariant-loop-number : goal.invariant-loop-number
invariant-loop-number l =
    let e = l.returns in
    Counts (counts_at e) (zip e.wins l.memory.placed) (lands_of e * parties_of e) l.number l.column.items
