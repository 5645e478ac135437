-- The rows with a cell written.
use Rattle.std.proofs.Common.{◌<◌, [], List, Option, Some, map, length, set, ap, sym, ◌∙◌, arith}
use Rattle.std.proofs.lemmas.List.{map-set, get_or-map}
use Rattle.std.specs.Vec.{with_item}
use Rattle.sl_law_meaning.specs.declared.election.ListVotes.{ListVotes}
use Rattle.sl_stages.proofs.returns.add.write_cell.Goals as goal

pub returns : goal.returns
returns c =
    let rows = c.args.rows.now.items in
    let row = c.index_mut-row.result.now in
    let there : c.args.land < length rows = omega arith in
    let same = ap (λ row. row.items) c.index_mut-row.ensures.value ∙ sym (get_or-map (λ row. row.items) rows c.args.land row [] there) in
    let written =
    map-set (λ row. row.items) rows c.args.land (with_item row c.args.party (Some c.args.votes))
    ∙ ap (λ (items : List (Option ListVotes)). set (map (λ row. row.items) rows) c.args.land (set items c.args.party (Some c.args.votes))) same in
    rw c.of.ensures written
