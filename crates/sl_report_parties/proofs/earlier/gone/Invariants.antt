use Rattle.std.proofs.Common.{◌≡◌, filter, take}
use Rattle.sl_report_parties.specs.Earlier.{is_gone}
use Rattle.sl_report_parties.proofs.earlier.gone.Given as goal

abbrev pub invariant-loop-party : goal.invariant-loop-party
invariant-loop-party l = l.found.items ≡ filter (is_gone l.returns) (take l.party-index l.earlier)
