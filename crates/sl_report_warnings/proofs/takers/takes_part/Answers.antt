use Rattle.std.proofs.Common.{ap, arith, is_some, refl, ◌∙◌}
use Rattle.sl_report_parties.proofs.Taking.{part_at, part_met, parts_long}
use Rattle.sl_report_parties.specs.declared.parts.PartyPart.{PartyPart}
use Rattle.sl_report_warnings.proofs.takers.takes_part.Goals as goal

pub bounds-parts-party : goal.bounds-parts-party
bounds-parts-party c =
    let parts = c.args.parts.now in
    omega (arith, c.requires.party, parts_long c.args.book.now.eligible.items c.args.returns.now parts parts refl c.requires.parts)

pub returns-then-party-parties : goal.returns-then-party-parties
returns-then-party-parties c =
    let parts = c.args.parts.now in
    let conditions = c.args.book.now.eligible.items in
    let e = c.args.returns.now in
    c.is_some.ensures ∙ ap (λ (p : PartyPart). is_some p.met) (part_at conditions e parts parts refl c.requires.parts c.args.party _ c.requires.party) ∙ part_met conditions e c.args.party
