use Rattle.std.proofs.Common.{◌≡◌, ◌≤◌, ◌+◌, ◌*◌, [], arith, ap, get_or, length, map, sym, ◌∙◌}
use Rattle.std.proofs.lemmas.List.{get_or_past, get_or-map, length-map}
use Rattle.sl_law_meaning.specs.returns.Election.{parties_of}
use Rattle.sl_report_parties.proofs.WinnerPlaces.{on_list}
use Rattle.sl_report_parties.proofs.winners.winners_on.Goals as goal

pub returns-in-Some : goal.returns-in-Some
returns-in-Some c =
    let e = c.args.returns.now in
    let all = c.args.on_lists.now in
    let rows = map (λ own. own.items) all in
    let place = c.args.land * parties_of e + c.args.party in
    let across = ap (λ n. c.args.land * n) c.parties.ensures.number in
    let within = c.in-Some.ensures.lookup.3.0 in
    let same : c.saturating_add.result ≡ place = omega (arith, within, across, c.saturating_mul-first.ensures, c.saturating_add.ensures) in
    c.as_slice.ensures.value ∙ ap (λ own. own.items) c.in-Some.ensures.lookup.1 ∙ sym (get_or-map (λ own. own.items) all c.saturating_add.result c.in-Some.own.now [] within)
    ∙ ap (λ n. get_or rows n []) same ∙ on_list e c.args.land c.args.party rows c.parties.ensures.kept.places c.requires.party c.requires.on_lists

pub returns-in-None : goal.returns-in-None
returns-in-None c =
    let e = c.args.returns.now in
    let all = c.args.on_lists.now in
    let rows = map (λ own. own.items) all in
    let place = c.args.land * parties_of e + c.args.party in
    let across = ap (λ n. c.args.land * n) c.parties.ensures.number in
    let past : length rows ≤ place = omega (arith, c.in-None.ensures.lookup.3, across, c.saturating_mul-first.ensures, c.saturating_add.ensures, length-map all (λ own. own.items)) in
    sym (get_or_past rows place [] past) ∙ on_list e c.args.land c.args.party rows c.parties.ensures.kept.places c.requires.party c.requires.on_lists
