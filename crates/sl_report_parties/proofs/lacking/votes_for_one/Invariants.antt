use Rattle.std.proofs.Common.{take}
use Rattle.sl_report_parties.specs.Lacking.{AreVotesFor, ForOne, IsLeastIfAny}
use Rattle.sl_report_parties.proofs.LackingSteps.{Fits}
use Rattle.sl_report_parties.proofs.lacking.votes_for_one.Given as goal

abbrev pub invariant-loop-number : goal.invariant-loop-number
invariant-loop-number l = record {
  fits : Fits l.lacking;
  least : IsLeastIfAny (ForOne (AreVotesFor l.has l.all) (take l.number l.conditions)) l.lacking;
}
