use Rattle.std.proofs.Common.{take}
use Rattle.std.proofs.lemmas.List.{get_or-replicate}
use Rattle.sl_prio.specs.inner.Marks.{names}
use Rattle.sl_prio.proofs.Marks.{one_more_marked}
use Rattle.sl_prio.proofs.lot.marks.Goals as goal

pub loop-named-init : goal.loop-named-init
loop-named-init c = λ index d l. get_or-replicate _ index _ d l

pub loop-named-preserved : goal.loop-named-preserved
loop-named-preserved c =
    let lot = c.args.lot.now in
    let k = c.loop-named.named-index in
    one_more_marked lot c.mark.new.marks k c.loop-named-test.true (c.mark.ensures.marked (names (take k lot)) c.loop-named.invariant)
