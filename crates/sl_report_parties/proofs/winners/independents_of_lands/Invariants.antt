use Rattle.sl_law_meaning.specs.returns.Election.{lands_of}
use Rattle.sl_report_parties.specs.Sums.{is_alone_in}
use Rattle.sl_report_parties.proofs.WinnerPlaces.{Tally}
use Rattle.sl_report_parties.proofs.winners.independents_of_lands.Given as goal

abbrev pub invariant-loop-number : goal.invariant-loop-number
invariant-loop-number l = Tally is_alone_in l.returns.wins (lands_of l.returns) l.number l.winners.items
