use Rattle.std.proofs.Common.{◌≡◌, ◌<◌, ◌∷◌, [], ◌+◌, length, filter, sum_by, get_or, codes, ap, sym, arith, zero-add, ◌∙◌}
use Rattle.std.specs.Fmt.{decimal}
use Rattle.std.proofs.lemmas.List.FromFn.{length-range_with_len, get_or-range_with_len}
use Rattle.std.proofs.lemmas.Option.{get_or_from_slice_get}
use Rattle.sl_law_meaning.specs.returns.Election.{parties_of}
use Rattle.sl_law_meaning.specs.returns.Facts.{parties}
use Rattle.sl_count_texts.specs.Lines.{line, with_lines}
use Rattle.sl_count_texts.specs.Short.{is_list_of, party_line, party_word, seats_of, seated_of, singles_of}
use Rattle.sl_count_texts.specs.inner.PartyCounts.{list_seats_of}
use Rattle.sl_count_texts.proofs.LineLoops.{lines_more, lines_all}
use Rattle.sl_count_texts.proofs.PartySeats.{sum_passing, by_party_at, by_party_length}
use Rattle.sl_count_texts.proofs.short_form.party_lines.Goals as goal

pub index-requires : goal.index-requires
index-requires c =
    let e = c.args.returns.now in
    let size = by_party_length e (list_seats_of c.args.table.now.lists) c.in_ok-counts.counts.list_seats.items c.in_ok-counts.ensures.list_seats in
    omega (arith, size, c.parties-party-end.ensures.number)

pub index-requires-in-loop-party : goal.index-requires-in-loop-party
index-requires-in-loop-party c =
    let e = c.args.returns.now in
    let size = by_party_length e (seated_of c.args.table.now e) c.in_ok-counts.counts.seated.items c.in_ok-counts.ensures.seated in
    omega (arith, size, c.parties-party-end.ensures.number)

pub index-requires-in-loop-party-2 : goal.index-requires-in-loop-party-2
index-requires-in-loop-party-2 c =
    let e = c.args.returns.now in
    let size = by_party_length e (singles_of c.args.table.now e) c.in_ok-counts.counts.singles.items c.in_ok-counts.ensures.singles in
    omega (arith, size, c.parties-party-end.ensures.number)

pub party_line-requires-clause-room : goal.party_line-requires-clause-room
party_line-requires-clause-room c =
    let e = c.args.returns.now in
    let size = by_party_length e (list_seats_of c.args.table.now.lists) c.in_ok-counts.counts.list_seats.items c.in_ok-counts.ensures.list_seats in
    let room = c.in_ok-counts.ensures.room c.loop-party.party c.index.result.now (omega (arith, size, c.parties-party-end.ensures.number)) in
    omega (arith, room, c.index.ensures)

pub loop-party-preserved : goal.loop-party-preserved
loop-party-preserved c =
    let e = c.args.returns.now in
    let t = c.args.table.now in
    let party = c.loop-party.party in
    let below : party < parties_of e = omega (arith, c.parties-party-end.ensures.number) in
    let within : party < length (parties e) = omega (arith, below, length-range_with_len 0 (length e.party_names)) in
    let here : get_or (parties e) party party ≡ party = get_or-range_with_len 0 (length e.party_names) party party below ∙ zero-add party in
    let counts = c.in_ok-counts.ensures in
    let list_seats = by_party_at e (list_seats_of t.lists) _ counts.list_seats party c.index.result.now below c.index.ensures ∙ sum_passing (is_list_of party) (λ l. l.seats) t.lists in
    let seated = by_party_at e (seated_of t e) _ counts.seated party c.index-in-loop-party.result.now below c.index-in-loop-party.ensures in
    let singles = by_party_at e (singles_of t e) _ counts.singles party c.index-in-loop-party-2.result.now below c.index-in-loop-party-2.ensures in
    let name : c.party_name.result.now ≡ party_word e party = sym (get_or_from_slice_get e.party_names party c.party_name.result.now [] c.party_name.ensures) in
    lines_more (party_line t e) c.args.text.now (parties e) party party c.loop-party.text _ within here c.loop-party.invariant
    (c.in_ok-party_line.ensures
    ∙ ap (λ n. with_lines c.loop-party.text (line (codes "party" ∷ n ∷ decimal (c.index.result.now + c.index-in-loop-party-2.result.now) ∷ decimal c.index-in-loop-party.result.now ∷ []))) name
    ∙ ap (λ n. with_lines c.loop-party.text (line (codes "party" ∷ party_word e party ∷ decimal n ∷ decimal c.index-in-loop-party.result.now ∷ []))) (ap (λ n. n + c.index-in-loop-party-2.result.now) list_seats ∙ ap (λ n. sum_by (λ l. l.seats) (filter (is_list_of party) t.lists) + n) singles)
    ∙ ap (λ n. with_lines c.loop-party.text (line (codes "party" ∷ party_word e party ∷ decimal (seats_of t e party) ∷ decimal n ∷ []))) seated)

pub returns : goal.returns
returns c =
    let e = c.args.returns.now in
    lines_all (party_line c.args.table.now e) c.args.text.now (parties e) c.loop-party.party _
    (omega (arith, length-range_with_len 0 (length e.party_names), c.parties-party-end.ensures.number)) c.loop-party.invariant
