-- The column is one of zeros, as long as before.
use Rattle.std.proofs.Common.{◌<◌, ℕ, List, length, ap, ◌∙◌, arith}
use Rattle.std.proofs.lemmas.List.{length-map, length-replicate}
use Rattle.sl_code_semantics.specs.State.{with_column}
use Rattle.sl_code_semantics.specs.Effects.{Goes}
use Rattle.sl_code_steps.specs.inner.Stores.{state_of}
use Rattle.sl_code_steps.proofs.stores.Cells.{same_columns, widths_kept, column_written}
use Rattle.sl_code_steps.proofs.stores.Starting.{same_at}
use Rattle.sl_code_steps.proofs.store.Store.zero_column.Goals as goal

pub returns-clause-kept : goal.returns-clause-kept
returns-clause-kept c =
    let columns = c.args.self.now.columns.items in
    let there : c.from.result < length columns = omega (arith, c.requires, length-map columns length) in
    let column = c.index_mut-column.result.now in
    let long = ap length c.clear.ensures ∙ length-replicate (length column) 0 in
    let kept = widths_kept columns c.from.result column there c.index_mut-column.ensures.value c.clear.new.self long in
    ap (λ (ws : List ℕ). record { columns = ws; parties = c.args.self.now.cursors.cells.parties; winners = length c.args.self.now.placed.items; lots = c.args.self.now.table.lots }) kept

pub returns-clause-follows : goal.returns-clause-follows
returns-clause-follows c =
    let columns = c.args.self.now.columns.items in
    let s = state_of c.args.self.now in
    let there : c.from.result < length columns = omega (arith, c.requires, length-map columns length) in
    let column = c.index_mut-column.result.now in
    let cells = column_written columns c.from.result column there c.index_mut-column.ensures.value c.clear.new.self (λ p. 0) (λ p. rw c.clear.ensures (same_at (length column) 0 p)) in
    ap Goes (same_columns s _ _ cells) ∙ ap (λ (k : ℕ). Goes (with_column k (λ p. 0) s)) c.from.ensures
