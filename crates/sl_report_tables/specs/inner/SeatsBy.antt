-- The seats of each party by a table.
use Rattle.std.specs.Prelude.{List, [], Option, None, Some, map}
use Rattle.sl_report_parties.specs.Seats.{party_seats}
use Rattle.sl_report_parties.specs.declared.seats.Seats.{Seats}
use Rattle.sl_law_meaning.specs.meaning.Tables.{SeatTable}
use Rattle.sl_law_meaning.specs.returns.Election.{Election}
use Rattle.sl_law_meaning.specs.returns.Facts.{parties}

-- none where there is no table
abbrev pub seats_by : Election → Option SeatTable → List Seats
seats_by e None = []
seats_by e (Some t) = map (party_seats t e) (parties e)
