-- The blocks of the facts so far stand, and those of the others are to come.
use Rattle.std.proofs.Common.{map, drop}
use Rattle.sl_compile_pieces.specs.facts.Trees.{fact_tree}
use Rattle.sl_compile_pieces.specs.exprs.Slots.{fact_slots}
use Rattle.sl_blocks.specs.Facts.{HasFirstSlots}
use Rattle.sl_compile.proofs.Places.{BlocksSome}
use Rattle.sl_compile.proofs.facts.lay_each.Given as goal

abbrev pub invariant-loop-fact : goal.invariant-loop-fact
invariant-loop-fact l =
    BlocksSome HasFirstSlots (map (fact_tree fact_slots l.house) l.facts) (map (fact_tree fact_slots l.house) (drop l.fact-index l.facts)) l.initial.code.items l.code.items
