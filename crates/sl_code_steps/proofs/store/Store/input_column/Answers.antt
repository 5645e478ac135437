-- The column is one of the returns', as long as before.
use Rattle.std.proofs.Common.{ℕ, List, length, ap, ◌∙◌}
use Rattle.sl_code_semantics.specs.State.{with_column}
use Rattle.sl_code_semantics.specs.Effects.{Goes, input_of}
use Rattle.sl_code_steps.specs.inner.Stores.{state_of}
use Rattle.sl_code_steps.proofs.stores.Cells.{same_columns, column_of_width, widths_kept, column_written}
use Rattle.sl_code_steps.proofs.stores.Inputs.{input_at}
use Rattle.sl_code_steps.proofs.store.Store.input_column.Goals as goal

pub read-requires : goal.read-requires
read-requires c = (column_of_width c.args.self.now.columns.items c.from.ensures c.index_mut-column.ensures.value c.requires.width).1

pub returns-in_err-read-clause-kept : goal.returns-in_err-read-clause-kept
returns-in_err-read-clause-kept c =
    let is = c.index_mut-column.ensures.value in
    let found = column_of_width c.args.self.now.columns.items c.from.ensures is c.requires.width in
    let kept = widths_kept c.args.self.now.columns.items c.from.result c.index_mut-column.result.now found.0 is c.read.new.self c.read.ensures.kept in
    ap (λ (ws : List ℕ). record { columns = ws; parties = c.args.self.now.cursors.cells.parties; winners = length c.args.self.now.placed.items; lots = c.args.self.now.table.lots }) kept

pub returns-clause-kept : goal.returns-clause-kept
returns-clause-kept c =
    let is = c.index_mut-column.ensures.value in
    let found = column_of_width c.args.self.now.columns.items c.from.ensures is c.requires.width in
    let kept = widths_kept c.args.self.now.columns.items c.from.result c.index_mut-column.result.now found.0 is c.read.new.self c.read.ensures.kept in
    ap (λ (ws : List ℕ). record { columns = ws; parties = c.args.self.now.cursors.cells.parties; winners = length c.args.self.now.placed.items; lots = c.args.self.now.table.lots }) kept

pub returns-clause-follows : goal.returns-clause-follows
returns-clause-follows c =
    let is = c.index_mut-column.ensures.value in
    let found = column_of_width c.args.self.now.columns.items c.from.ensures is c.requires.width in
    let s = state_of c.args.self.now in
    let cells = column_written c.args.self.now.columns.items c.from.result c.index_mut-column.result.now found.0 is
    c.read.new.self (input_of c.args.returns.now c.args.input)
    (input_at c.args.returns.now c.args.input c.read.new.self c.requires.election c.in_ok-read.ensures.read) in
    ap Goes (same_columns s _ _ cells) ∙ ap (λ (k : ℕ). Goes (with_column k (input_of c.args.returns.now c.args.input) s)) c.from.ensures
