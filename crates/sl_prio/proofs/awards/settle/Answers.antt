use Rattle.std.proofs.Common.{Bool, IsPermutation, sym, subst}
use Rattle.sl_prio.specs.inner.Taken.{held_in}
use Rattle.sl_prio.proofs.TakenTops.{top_goes}
use Rattle.sl_prio.proofs.awards.settle.Goals as goal

pub returns-then-is_top_taken : goal.returns-then-is_top_taken
returns-then-is_top_taken c =
    subst (λ (taken : Bool). IsPermutation (held_in taken c.args.prio.now) c.take.new.self) (sym c.if-is_top_taken.true)
    (top_goes c.args.prio.now c.take.new.self c.take.result c.take.ensures.top c.take.ensures.rest c.take.ensures.none)
