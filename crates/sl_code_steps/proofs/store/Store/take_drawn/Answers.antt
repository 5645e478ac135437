-- The peer that the stage's lot draws is taken.
use Rattle.std.proofs.Common.{List, slice_get, sym, ap, ◌∙◌}
use Rattle.sl_base_rankings.specs.Lot.{drawn}
use Rattle.sl_code_semantics.specs.Effects.{name_of, takes}
use Rattle.sl_code_steps.specs.inner.Lots.{StageLots}
use Rattle.sl_code_steps.specs.inner.Stores.{state_of}
use Rattle.sl_code_steps.proofs.drawing.Drawing.{topped}
use Rattle.sl_code_steps.proofs.drawing.Passing.{by_name, stage_lot}
use Rattle.sl_code_steps.proofs.store.Store.take_drawn.Goals as goal

pub returns-clause-follows : goal.returns-clause-follows
returns-clause-follows c =
    let e = c.args.returns.now in
    let code = c.args.code.now in
    let s = state_of c.args.self.now in
    let table = c.args.self.now.table in
    let n = c.stage_number.result in
    let its = ap (λ (lots : List StageLots). slice_get lots n) c.requires.lots ∙ stage_lot code e c.args.stage n c.stage_number.ensures in
    c.move_to_taken.ensures.follows ∙ sym (c.take_lot-taken.ensures.taken e s)
    ∙ by_name e table.on table.lots n (name_of code.stages c.args.stage) (λ t lot. takes e t (drawn lot t.contents) s) its
    ∙ sym (topped e (λ t lot. takes e t (drawn lot t.contents) s) table.on (name_of code.stages c.args.stage) c.requires.top)
