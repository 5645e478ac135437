use Rattle.std.proofs.Common.{◌<◌, map, arith, ap, count_by, get_or, length, ◌∙◌}
use Rattle.std.proofs.lemmas.List.FromFn.{get_or-map-range_with_len, length-map-range_with_len}
use Rattle.sl_law_meaning.specs.returns.Election.{parties_of}
use Rattle.sl_law_meaning.specs.returns.Facts.{is_of}
use Rattle.sl_report_parties.specs.Parts.{part_of}
use Rattle.sl_report_parties.proofs.Steps.{mapped_more, at_last}
use Rattle.sl_report_parties.proofs.parts.parts_of.Goals as goal

pub loop-party-preserved : goal.loop-party-preserved
loop-party-preserved c = mapped_more (part_of c.args.conditions.now c.args.returns.now) c.loop-party.party _ _ _ c.loop-party.invariant c.in_ok-push.ensures.items c.part_with.ensures

pub returns : goal.returns
returns c = at_last (map (part_of c.args.conditions.now c.args.returns.now)) c.loop-party.party _ _ (omega (arith, c.parties-party-end.ensures.number)) c.loop-party.invariant

pub index-winners-requires : goal.index-winners-requires
index-winners-requires c =
    let e = c.args.returns.now in
    let long = ap length c.in_ok-of_parties.ensures ∙ length-map-range_with_len (λ party. count_by (is_of party) e.wins) 0 (parties_of e) in
    omega (arith, long, c.loop-party-test.true, c.parties-party-end.ensures.number, c.in_ok-of_parties.of_parties.ok.0)

pub part_with-requires-clause-winners : goal.part_with-requires-clause-winners
part_with-requires-clause-winners c =
    let e = c.args.returns.now in
    let party = c.loop-party.party in
    let here = c.index-winners.result.now in
    let within : party < parties_of e = omega (arith, c.loop-party-test.true, c.parties-party-end.ensures.number) in
    c.index-winners.ensures ∙ ap (λ all. get_or all party here) c.in_ok-of_parties.ensures
    ∙ get_or-map-range_with_len (λ party. count_by (is_of party) e.wins) 0 (parties_of e) party party here within (omega arith)
