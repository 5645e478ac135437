use Rattle.std.proofs.Common.{[], map, arith}
use Rattle.sl_compile_pieces.specs.facts.Trees.{fact_tree}
use Rattle.sl_compile_pieces.specs.exprs.Slots.{fact_slots}
use Rattle.sl_blocks.specs.Facts.{HasFirstSlots}
use Rattle.sl_compile.proofs.rulebooks.Rows.{no_blocks}
use Rattle.sl_compile.proofs.Places.{some_first, item_room, item_next, items_all}
use Rattle.sl_compile.proofs.facts.lay_each.Goals as goal

pub loop-fact-init : goal.loop-fact-init
loop-fact-init c = some_first [] (map (fact_tree fact_slots c.args.house) c.args.facts.now) (no_blocks HasFirstSlots c.args.code.now.items)

pub lay_fact-requires : goal.lay_fact-requires
lay_fact-requires c =
    item_room (map (fact_tree fact_slots c.args.house) c.args.facts.now) (fact_tree fact_slots c.args.house) c.args.facts.now c.loop-fact.fact-index _
    c.loop-fact.invariant c.loop-fact-test.true c.requires

pub loop-fact-preserved : goal.loop-fact-preserved
loop-fact-preserved c =
    item_next (map (fact_tree fact_slots c.args.house) c.args.facts.now) (fact_tree fact_slots c.args.house) c.args.facts.now c.loop-fact.fact-index _
    c.loop-fact.invariant c.loop-fact-test.true c.in_ok-lay_fact.ensures

pub returns : goal.returns
returns c =
    items_all (map (fact_tree fact_slots c.args.house) c.args.facts.now) (fact_tree fact_slots c.args.house) c.args.facts.now c.loop-fact.fact-index (omega arith) c.loop-fact.invariant
