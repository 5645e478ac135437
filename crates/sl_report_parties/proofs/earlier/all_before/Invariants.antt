use Rattle.std.proofs.Common.{◌≡◌, take}
use Rattle.std.specs.Prelude.{sum_by}
use Rattle.sl_report_parties.specs.Sums.{capped}
use Rattle.sl_report_parties.proofs.earlier.all_before.Given as goal

abbrev pub invariant-loop-party : goal.invariant-loop-party
invariant-loop-party l = l.seats ≡ capped (sum_by (λ p. p.seats) (take l.party-index l.earlier))
