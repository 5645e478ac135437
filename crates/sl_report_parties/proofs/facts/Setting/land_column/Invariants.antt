use Rattle.sl_law_meaning.specs.returns.Election.{lands_of}
use Rattle.sl_report_parties.proofs.WinnerPlaces.{Tally}
use Rattle.sl_report_parties.specs.inner.Winners.{counts_in}
use Rattle.sl_report_parties.proofs.facts.Setting.land_column.Given as goal

abbrev pub invariant-loop-number : goal.invariant-loop-number
invariant-loop-number l = Tally (counts_in l.self.book.now.eligible.items l.self.returns.now l.fact) l.self.returns.now.wins (lands_of l.self.returns.now) l.number l.cells.items
