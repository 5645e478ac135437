use Rattle.std.proofs.Common.{refl}
use Rattle.sl_law_meaning.specs.declared.fault.Item.TheVariants as item
use Rattle.sl_report_parties.proofs.Steps.{mapped_more}
use Rattle.sl_report_results.proofs.places.all_lands.Goals as goal

pub loop-land-preserved : goal.loop-land-preserved
loop-land-preserved c = mapped_more (λ land. item.Land land) c.loop-land.land _ _ _ c.loop-land.invariant c.in_ok-push.ensures.items refl
