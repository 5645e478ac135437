use Rattle.std.proofs.Common.{take}
use Rattle.sl_report_parties.specs.Lacking.{AreWinnersFor, ForOne, IsLeastIfAny}
use Rattle.sl_report_parties.proofs.LackingSteps.{Fits}
use Rattle.sl_report_parties.proofs.lacking.winners_for_one.Given as goal

abbrev pub invariant-loop-number : goal.invariant-loop-number
invariant-loop-number l = record {
  fits : Fits l.lacking;
  least : IsLeastIfAny (ForOne (AreWinnersFor l.has) (take l.number l.conditions)) l.lacking;
}
