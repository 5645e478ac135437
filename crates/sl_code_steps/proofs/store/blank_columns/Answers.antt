use Rattle.std.proofs.Common.{sym, ap, map, ◌∙◌}
use Rattle.std.proofs.lemmas.List.{map_more, take_all}
use Rattle.sl_base_terms.specs.declared.shape.Shape.TheVariants as shape
use Rattle.sl_code_steps.proofs.stores.Starting.{blank}
use Rattle.sl_code_steps.proofs.store.blank_columns.Goals as goal

pub loop-shape-preserved : goal.loop-shape-preserved
loop-shape-preserved c =
    rw (c.in_ok-append.ensures, c.loop-shape.invariant, c.zeros.ensures, c.cells.ensures.value)
    (sym (map_more (blank c.args.returns.now) c.args.slots.now c.loop-shape.shape-index shape.One c.loop-shape-test.true))

pub returns : goal.returns
returns c = c.loop-shape.invariant ∙ ap (map (blank c.args.returns.now)) (take_all c.loop-shape.shape-index c.args.slots.now c.loop-shape-test.false)
