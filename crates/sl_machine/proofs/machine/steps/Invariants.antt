-- The run is on its way, and ends as it would have.
use Rattle.std.proofs.Common.{◌≡◌}
use Rattle.sl_code_semantics.specs.Runs.{run}
use Rattle.sl_code_steps.specs.inner.Recording.{ending_by}
use Rattle.sl_code_steps.specs.inner.Stores.{state_of, sizes_of, sizes_for}
use Rattle.sl_machine.specs.inner.UnderWay.{IsUnderWay, rest_of, work}
use Rattle.sl_machine.proofs.machine.steps.Given as goal

abbrev pub invariant-loop-next : goal.invariant-loop-next
invariant-loop-next g l = record {
  under_way : IsUnderWay g.R.Recording.records l.code l.returns l.clock l.ahead (state_of l.store);
  same : ending_by g.R.Recording.records (run l.code l.returns l.budget 0 (state_of l.fn.store)) ≡ rest_of g.R.Recording.records l.code l.returns l.clock l.ahead (state_of l.store);
  sizes : sizes_of l.store ≡ sizes_for l.code l.returns;
}

abbrev pub decreases-loop-next : goal.decreases-loop-next
decreases-loop-next g l = work l.code l.clock l.ahead
