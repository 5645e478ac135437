use Rattle.std.proofs.Common.{◌≡◌, IfOk, [], map, get_or, sym, ap, subst, ◌∙◌}
use Rattle.std.proofs.lemmas.List.{get_or-map}
use Rattle.std.proofs.lemmas.Option.{get_or_from_slice_get}
use Rattle.sl_base_terms.specs.declared.shape.Shape.TheVariants as shape
use Rattle.sl_code_semantics.specs.Places.{cells_of}
use Rattle.sl_table.specs.HeldStages.{stage_slot}
use Rattle.sl_table.specs.Stages.{stage_text}
use Rattle.sl_table.proofs.StageSlots.{column_length}
use Rattle.sl_table.proofs.stage_form.stage_text.Goals as goal

pub column_text-requires : goal.column_text-requires
column_text-requires c =
    let e = c.args.returns.now in
    column_length e c.args.memory.now.columns c.slots.result.now (c.requires.fits.columns ∙ ap (map (cells_of e)) (sym c.slots.ensures.slots)) c.from-slot.result c.column.result.now c.column.ensures

pub returns : goal.returns
returns c =
    let e = c.args.returns.now in
    let code = c.args.code.now in
    let stage = c.args.stage in
    let slot = c.from-slot.result in
    let column = c.column.result.now in
    let this : slot ≡ stage_slot code stage =
    c.from-slot.ensures
    ∙ ap (λ xs. (get_or xs stage c.index-stages-stage.result).slot) c.stages.ensures.stages
    ∙ sym (get_or-map (λ s. s.slot) code.stages stage c.index-stages-stage.result 0 c.requires.stage) in
    let text : stage_text e (get_or c.slots.result.now slot shape.One) column
    ≡ stage_text e (get_or code.slots (stage_slot code stage) shape.One) (get_or c.args.memory.now.columns (stage_slot code stage) []) =
    ap (λ xs. stage_text e (get_or xs slot shape.One) column) c.slots.ensures.slots
    ∙ ap (λ ys. stage_text e (get_or code.slots slot shape.One) ys) (sym (get_or_from_slice_get c.args.memory.now.columns slot column [] c.column.ensures))
    ∙ ap (λ n. stage_text e (get_or code.slots n shape.One) (get_or c.args.memory.now.columns n [])) this in
    subst (λ x. IfOk c.column_text.result (λ text. text.items ≡ x)) text c.column_text.ensures
