use Rattle.std.proofs.Common.{◌≡◌, ◌*◌, ◌≤◌, ◌^◌, take}
use Rattle.std.specs.Prelude.{sum}
use Rattle.sl_explain_faults.proofs.counts.population.Given as goal

abbrev pub invariant-loop-land : goal.invariant-loop-land
invariant-loop-land l = record {
  people : l.people ≡ sum (take l.land l.returns.populations);
  fits : l.people ≤ l.land * 2 ^ 32;
}
