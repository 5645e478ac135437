use Rattle.std.proofs.Common.{◌≡◌, ◌<◌, Option, ap, option_map, ℕ, ◌∙◌, filter, map, arith, get_or, length}
use Rattle.std.proofs.lemmas.List.FromFn.{get_or-map-range_with_len, length-map-range_with_len}
use Rattle.sl_law_meaning.specs.returns.Election.{parties_of}
use Rattle.sl_report_parties.specs.Press.{is_pressed, pressed_of}
use Rattle.sl_report_parties.specs.Seats.{party_seats}
use Rattle.sl_report_parties.specs.Parts.{part_of}
use Rattle.sl_report_parties.specs.declared.parts.PartyPart.{PartyPart}
use Rattle.sl_report_parties.specs.declared.press.Pressed.{Pressed}
use Rattle.sl_report_parties.specs.declared.seats.Seats.{Seats}
use Rattle.sl_report_parties.proofs.PressSteps.{kept_number}
use Rattle.sl_report_parties.proofs.Steps.{at_last}
use Rattle.sl_report_parties.proofs.press.with_seats.Goals as goal

pub loop-party-preserved : goal.loop-party-preserved
loop-party-preserved c =
    let conditions = c.args.setting.now.book.now.eligible.items in
    let e = c.args.setting.now.returns.now in
    let n = c.loop-party.party in
    let earlier = option_map (λ all. all.now) c.args.earlier in
    let with_all : Seats → PartyPart → Option ℕ → Pressed = λ s p b. record { party = n; seats = s; part = p; before = b } in
    let here = c.index.result.now in
    let within : n < parties_of e = omega (arith, c.loop-party-test.true, c.parties-party-end.ensures.number) in
    let seats : here ≡ party_seats c.args.table.now e n =
    c.index.ensures ∙ ap (λ all. get_or all n here) c.in_ok-seats.ensures ∙ get_or-map-range_with_len (party_seats c.args.table.now e) 0 (parties_of e) n n here within (omega arith) in
    kept_number (pressed_of conditions c.args.table.now e earlier) is_pressed n _ _ (with_all here c.part.result c.before_of.result) c.loop-party.invariant
    c.in_ok-push_pressed.ensures
    (ap (λ s. with_all s c.part.result c.before_of.result) seats
    ∙ ap (λ p. with_all (party_seats c.args.table.now e n) p c.before_of.result) c.part.ensures
    ∙ ap (λ b. with_all (party_seats c.args.table.now e n) (part_of conditions e n) b) c.before_of.ensures)

pub returns : goal.returns
returns c = at_last (λ parties. filter is_pressed (map (pressed_of c.args.setting.now.book.now.eligible.items c.args.table.now c.args.setting.now.returns.now (option_map (λ all. all.now) c.args.earlier)) parties)) c.loop-party.party _ _ (omega (arith, c.parties-party-end.ensures.number)) c.loop-party.invariant

pub index-requires : goal.index-requires
index-requires c =
    let e = c.args.setting.now.returns.now in
    let long = ap length c.in_ok-seats.ensures ∙ length-map-range_with_len (party_seats c.args.table.now e) 0 (parties_of e) in
    omega (arith, long, c.loop-party-test.true, c.parties-party-end.ensures.number, c.in_ok-seats.seats.ok.0)
