use Rattle.std.proofs.Common.{[], ◌∷◌}
use Rattle.sl_compile_pieces.specs.facts.Trees.{eligible_tree}
use Rattle.sl_compile_pieces.specs.exprs.Slots.{fact_slots}
use Rattle.sl_blocks.specs.Facts.{HasFirstSlots, other_facts}
use Rattle.sl_blocks.specs.inner.Few.{few_of}
use Rattle.sl_compile.proofs.Places.{room_first, room_rest, blocks_behind}
use Rattle.sl_compile.proofs.facts.lay_facts.Goals as goal

pub eligible_block-requires-clause-room : goal.eligible_block-requires-clause-room
eligible_block-requires-clause-room c =
    room_first (eligible_tree fact_slots (few_of c.args.few.now) ∷ []) (other_facts c.args.house) c.args.code.now.items c.requires.room

pub lay_each-requires : goal.lay_each-requires
lay_each-requires c =
    room_rest (eligible_tree fact_slots (few_of c.args.few.now) ∷ []) (other_facts c.args.house) c.args.code.now.items c.eligible_block.new.code.items c.requires.room
    c.in_ok-eligible_block.ensures.ok

pub returns : goal.returns
returns c =
    blocks_behind c.lay_each.result HasFirstSlots HasFirstSlots (λ code has. has) (eligible_tree fact_slots (few_of c.args.few.now) ∷ []) (other_facts c.args.house)
    c.args.code.now.items c.eligible_block.new.code.items c.lay_each.new.code.items c.in_ok-eligible_block.ensures.ok c.lay_each.ensures
