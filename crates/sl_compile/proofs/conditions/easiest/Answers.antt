use Rattle.std.proofs.Common.{add-one, arith}
use Rattle.std.proofs.Math.Seq.{drop-cons}
use Rattle.sl_compile.proofs.Easier.{one_more_said, all_said_at}
use Rattle.sl_compile.proofs.Wholes.{few_small}
use Rattle.sl_compile.proofs.conditions.easiest.Goals as goal

pub loop-condition-preserved : goal.loop-condition-preserved
loop-condition-preserved c = record {
  said = rw add-one (one_more_said c.args.conditions.now c.loop-condition.condition-index c.loop-condition.few c.add-few.result _ c.loop-condition-test.true
      (drop-cons c.args.conditions.now c.loop-condition.condition-index _ c.loop-condition-test.true) c.loop-condition.invariant.said c.add-few.ensures.fair c.add-few.ensures.same);
  small = c.add-few.ensures.small;
}

pub returns : goal.returns
returns c = record {
  same = all_said_at c.args.conditions.now c.loop-condition.condition-index c.loop-condition.few (omega arith) c.loop-condition.invariant.said;
  small = few_small c.loop-condition.few c.loop-condition.invariant.said.fair c.loop-condition.invariant.small;
}
