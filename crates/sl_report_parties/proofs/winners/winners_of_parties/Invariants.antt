use Rattle.sl_law_meaning.specs.returns.Election.{parties_of}
use Rattle.sl_law_meaning.specs.returns.Facts.{is_of}
use Rattle.sl_report_parties.proofs.WinnerPlaces.{Tally}
use Rattle.sl_report_parties.proofs.winners.winners_of_parties.Given as goal

abbrev pub invariant-loop-number : goal.invariant-loop-number
invariant-loop-number l = Tally is_of l.returns.wins (parties_of l.returns) l.number l.winners.items
