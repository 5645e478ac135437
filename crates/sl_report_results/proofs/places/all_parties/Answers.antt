use Rattle.std.proofs.Common.{refl}
use Rattle.sl_law_meaning.specs.declared.fault.Item.TheVariants as item
use Rattle.sl_report_parties.proofs.Steps.{mapped_more}
use Rattle.sl_report_results.proofs.places.all_parties.Goals as goal

pub loop-party-preserved : goal.loop-party-preserved
loop-party-preserved c = mapped_more (λ party. item.Party party) c.loop-party.party _ _ _ c.loop-party.invariant c.in_ok-push.ensures.items refl
