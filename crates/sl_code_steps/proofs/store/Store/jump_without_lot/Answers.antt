-- The stage's lot, by the stage's name.
use Rattle.std.proofs.Common.{Bool, List, slice_get, sym, ap, ◌∙◌}
use Rattle.std.specs.Prelude.{if◌then◌else◌}
use Rattle.sl_code_semantics.specs.Effects.{Goes, Jumps, name_of}
use Rattle.sl_code_steps.specs.inner.Lots.{LotTable, StageLots}
use Rattle.sl_code_steps.specs.inner.Stores.{state_of}
use Rattle.sl_code_steps.proofs.drawing.Passing.{covers_by_name, stage_lot}
use Rattle.sl_code_steps.proofs.store.Store.jump_without_lot.Goals as goal

pub returns-then-is_covered-clause-follows : goal.returns-then-is_covered-clause-follows
returns-then-is_covered-clause-follows c = λ e lots.
    let code = c.args.code.now in
    let s = state_of c.args.self.now in
    let table = c.args.self.now.table in
    let n = c.stage_number.result in
    let its = ap (λ (lots : List StageLots). slice_get lots n) lots ∙ stage_lot code e c.args.stage n c.stage_number.ensures in
    ap (λ (t : LotTable). Goes (record s { table = t.on })) c.is_covered.ensures.same
    ∙ ap (λ (b : Bool). if b then Goes s else Jumps s) (sym c.if-is_covered.true)
    ∙ covers_by_name e table.on table.lots n (name_of code.stages c.args.stage) s c.is_covered.result its c.requires.top (c.is_covered.ensures.covered s)

pub returns-else-is_covered-clause-follows : goal.returns-else-is_covered-clause-follows
returns-else-is_covered-clause-follows c = λ e lots.
    let code = c.args.code.now in
    let s = state_of c.args.self.now in
    let table = c.args.self.now.table in
    let n = c.stage_number.result in
    let its = ap (λ (lots : List StageLots). slice_get lots n) lots ∙ stage_lot code e c.args.stage n c.stage_number.ensures in
    ap (λ (t : LotTable). Jumps (record s { table = t.on })) c.is_covered.ensures.same
    ∙ ap (λ (b : Bool). if b then Goes s else Jumps s) (sym c.if-is_covered.false)
    ∙ covers_by_name e table.on table.lots n (name_of code.stages c.args.stage) s c.is_covered.result its c.requires.top (c.is_covered.ensures.covered s)
