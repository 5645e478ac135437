-- The cell that is written, in a column as long as before.
use Rattle.std.proofs.Common.{ℕ, List, length, slice_get, sym, ap, ◌∙◌}
use Rattle.sl_code_semantics.specs.State.{with_cell}
use Rattle.sl_code_semantics.specs.Places.{cell_at}
use Rattle.sl_code_semantics.specs.Effects.{Goes}
use Rattle.sl_code_steps.specs.inner.Stores.{state_of, Sizes}
use Rattle.sl_code_steps.proofs.stores.Cells.{found_behind, same_columns, place_in_column, widths_kept, cells_written}
use Rattle.sl_code_steps.proofs.store.Store.store_cell.Goals as goal

pub returns-in_err-put-clause-kept : goal.returns-in_err-put-clause-kept
returns-in_err-put-clause-kept c =
    let place = c.place-place.ensures in
    let is = c.index_mut-column.ensures.value in
    let found = place_in_column c.args.self.now.columns.items c.from.ensures is (ap (λ (z : Sizes). z.columns) c.requires.sizes) place.slot place.within in
    let kept = widths_kept c.args.self.now.columns.items c.from.result c.index_mut-column.result.now found.0 is c.put.new.self c.put.ensures.kept in
    ap (λ (ws : List ℕ). record { columns = ws; parties = c.args.self.now.cursors.cells.parties; winners = length c.args.self.now.placed.items; lots = c.args.self.now.table.lots }) kept

pub returns-clause-kept : goal.returns-clause-kept
returns-clause-kept c =
    let place = c.place-place.ensures in
    let is = c.index_mut-column.ensures.value in
    let found = place_in_column c.args.self.now.columns.items c.from.ensures is (ap (λ (z : Sizes). z.columns) c.requires.sizes) place.slot place.within in
    let kept = widths_kept c.args.self.now.columns.items c.from.result c.index_mut-column.result.now found.0 is c.put.new.self c.put.ensures.kept in
    ap (λ (ws : List ℕ). record { columns = ws; parties = c.args.self.now.cursors.cells.parties; winners = length c.args.self.now.placed.items; lots = c.args.self.now.table.lots }) kept

pub returns-clause-follows : goal.returns-clause-follows
returns-clause-follows c =
    let s = state_of c.args.self.now in
    let place = c.place-place.ensures in
    let is = c.index_mut-column.ensures.value in
    let found = place_in_column c.args.self.now.columns.items c.from.ensures is (ap (λ (z : Sizes). z.columns) c.requires.sizes) place.slot place.within in
    let cells = cells_written c.args.self.now.columns.items c.from.result c.index_mut-column.result.now found.0 is c.put.new.self c.place-place.result c.register-value.result c.in_ok-put.ensures.put found.1 in
    ap Goes (same_columns s _ _ cells)
    ∙ ap (λ (k : ℕ). Goes (with_cell k c.place-place.result c.register-value.result s)) c.from.ensures
    ∙ ap (λ (v : ℕ). Goes (with_cell c.args.slot c.place-place.result v s)) c.register-value.ensures
    ∙ sym (found_behind (slice_get c.args.code.now.slots c.args.slot) (λ shape. cell_at c.args.returns.now shape s) c.place-place.result
    (λ place. Goes (with_cell c.args.slot place (s.registers c.args.register) s)) place.value)
