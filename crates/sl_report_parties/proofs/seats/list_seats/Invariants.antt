use Rattle.std.proofs.Common.{[], take}
use Rattle.sl_report_parties.specs.inner.PartySeats.{AreSeats}
use Rattle.sl_report_parties.proofs.seats.list_seats.Given as goal

abbrev pub invariant-loop-list : goal.invariant-loop-list
invariant-loop-list l = AreSeats l.parties (take l.list-index l.list-items) [] l.all.items
