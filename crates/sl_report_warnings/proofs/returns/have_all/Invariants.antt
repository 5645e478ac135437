use Rattle.std.proofs.Common.{nat_eq, take, true, ◌≡◌}
use Rattle.std.specs.List.{list_all}
use Rattle.sl_report_warnings.proofs.returns.have_all.Given as goal

abbrev pub invariant-loop-land : goal.invariant-loop-land
invariant-loop-land l = list_all (nat_eq l.people) (take l.land l.returns.populations) ≡ true
