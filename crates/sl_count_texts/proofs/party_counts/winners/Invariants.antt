-- The column counts the winners so far.
use Rattle.std.specs.List.{zip}
use Rattle.sl_law_meaning.specs.returns.Election.{parties_of}
use Rattle.sl_count_texts.proofs.Counting.{Counts}
use Rattle.sl_count_texts.proofs.PartyWinners.{counts_for}
use Rattle.sl_count_texts.proofs.party_counts.winners.Given as goal

abbrev pub invariant-loop-win : goal.invariant-loop-win
invariant-loop-win l = Counts (counts_for l.counted) (zip l.returns.wins l.place-items) (parties_of l.returns) l.win l.column.items
