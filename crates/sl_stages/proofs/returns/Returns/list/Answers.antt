-- Each row has a cell for each party that there may be.
use Rattle.std.proofs.Common.{◌≡◌, ◌<◌, [], length, get_or, arith, ap, sym, ◌∙◌}
use Rattle.std.proofs.lemmas.List.{get_or-map, length-map}
use Rattle.std.proofs.lemmas.List.Elements.{All-get_or}
use Rattle.sl_base_quotients.specs.declared.limits.TheConstants.{MAX_PARTIES}
use Rattle.sl_stages.specs.inner.Kept.{election_of}
use Rattle.sl_stages.proofs.returns.Returns.list.Goals as goal

pub index-requires-2 : goal.index-requires-2
index-requires-2 c =
    let e = election_of c.self.inside in
    let kept = c.self.invariant in
    let named : length e.land_names ≡ length c.args.self.now.land_names = ap (λ x. length x.land_names) c.self.view_is in
    let parties : length e.party_names ≡ length c.args.self.now.party_names = ap (λ x. length x.party_names) c.self.view_is in
    let in_cells : c.args.land < length e.cells = omega (arith, named, kept.rows, c.requires.land) in
    let in_rows : c.args.land < length c.self.inside.rows.items = omega (arith, in_cells, length-map c.self.inside.rows.items (λ r. r.items)) in
    let width : length (get_or e.cells c.args.land []) ≡ MAX_PARTIES = All-get_or (λ row. length row ≡ MAX_PARTIES) e.cells c.args.land [] in_cells kept.widths in
    let row : get_or e.cells c.args.land [] ≡ (get_or c.self.inside.rows.items c.args.land c.index.result.now).items = get_or-map _ c.self.inside.rows.items c.args.land c.index.result.now [] in_rows in
    let wide : length c.index.result.now.items ≡ MAX_PARTIES = ap length (ap (λ r. r.items) c.index.ensures ∙ sym row) ∙ width in
    omega (arith, wide, parties, kept.parties, c.requires.party)
