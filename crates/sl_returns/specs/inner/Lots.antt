-- What a record tells of a lot, as the returns keep it.
use Rattle.sl_law_meaning.specs.declared.election.Lot.{Lot}
use Rattle.sl_returns.specs.declared.lot.ToldLot.{ToldLot}

abbrev pub lot_told : ToldLot → Lot
lot_told l = record { land = l.land; party = l.party; stage = l.stage.now; win = l.win }
