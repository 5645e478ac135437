-- The column holds the seats of the lists so far, each below so many times the greatest number of seats.
use Rattle.std.proofs.Common.{cond}
use Rattle.sl_count_texts.specs.Short.{is_list_of}
use Rattle.sl_count_texts.proofs.Counting.{Sums, AreBelow}
use Rattle.sl_count_texts.proofs.party_counts.list_seats.Given as goal

abbrev pub invariant-loop-list : goal.invariant-loop-list
invariant-loop-list l = record {
  sums : Sums (λ party x. cond (is_list_of party x) x.seats 0) l.lists l.parties l.list-index l.column.items;
  below : AreBelow 18446744073709551615 l.parties l.list-index l.column.items;
}
