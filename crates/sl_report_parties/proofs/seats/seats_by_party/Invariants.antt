use Rattle.std.proofs.Common.{take}
use Rattle.std.specs.List.{zip}
use Rattle.sl_law_meaning.specs.returns.Election.{parties_of}
use Rattle.sl_report_parties.specs.inner.PartySeats.{AreSeats}
use Rattle.sl_report_parties.proofs.seats.seats_by_party.Given as goal

abbrev pub invariant-loop-number : goal.invariant-loop-number
invariant-loop-number l = AreSeats (parties_of l.returns) l.table.lists (take l.number (zip l.returns.wins l.placed)) l.all.items
