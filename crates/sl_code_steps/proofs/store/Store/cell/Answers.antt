-- The cell is in the column.
use Rattle.std.proofs.Common.{◌<◌, ◌≡◌, ℕ, length, map, get_or, arith, ap, ◌∙◌}
use Rattle.std.proofs.lemmas.List.{length-map}
use Rattle.sl_code_steps.proofs.stores.Cells.{width_is}
use Rattle.sl_code_steps.proofs.store.Store.cell.Goals as goal

pub number-requires : goal.number-requires
number-requires c =
    let columns = c.args.self.now.columns.items in
    let there : c.from.result < length columns = omega (arith, c.requires.slot, length-map columns length) in
    let ws = map length columns in
    let width : length c.index.result.now ≡ get_or ws c.args.slot 0 =
    width_is columns c.from.result c.index.result.now there c.index.ensures ∙ ap (λ (k : ℕ). get_or ws k 0) c.from.ensures in
    let within : c.args.place < get_or ws c.args.slot 0 = c.requires.place in
    omega (arith, width, within)
