use Rattle.std.proofs.Common.{[], ◌∷◌, subst, sym, ap, arith}
use Rattle.sl_law_meaning.specs.declared.fact.Fact.TheVariants as facts
use Rattle.sl_law_meaning.specs.declared.book.Pairing.TheVariants as pairings
use Rattle.sl_base_terms.specs.declared.shape.Shape.TheVariants as shape
use Rattle.sl_code_instructions.specs.Codes.{CountingCode}
use Rattle.sl_compile_pieces.specs.columns.Trees.{copy_tree, pair_tree}
use Rattle.sl_compile_pieces.specs.covers.Trees.{cover_tree}
use Rattle.sl_compile_pieces.specs.exprs.Slots.{winners_slot}
use Rattle.sl_compile_pieces.specs.closing.Trees.{final_seats, place_kept, cover_slots, seating_pieces}
use Rattle.sl_blocks.specs.Blocks.{HasSlotsOf}
use Rattle.sl_blocks.specs.Facts.{HasFirstSlots}
use Rattle.sl_blocks.specs.PlanBlocks.{HasCopy, HasPair}
use Rattle.sl_compile.proofs.rulebooks.Rows.{blocks_in}
use Rattle.sl_compile.proofs.rulebooks.Slots.{has_book_slots, has_first}
use Rattle.sl_compile.specs.inner.Nodes.{HasBase}
use Rattle.sl_compile.proofs.Places.{blocks_as, blocks_behind}
use Rattle.sl_compile.proofs.closing.lay_seating.Goals as goal

pub returns-in_ok-pair_block-in-Keep : goal.returns-in_ok-pair_block-in-Keep
returns-in_ok-pair_block-in-Keep c =
    let from = c.args.from in
    let x = c.args.code.now.items in
    let z = c.placing_block.new.code.items in
    let has_pair : (code : CountingCode) → HasBase from code → HasPair shape.List from winners_slot final_seats code =
    λ code has.
    let slots = has_book_slots [] code has.so_far.slots in
    record { left_there = has.base; right_there = slots.facts.facts facts.Winners; to_there = slots.passing_are 0 shape.List (omega arith) } in
    blocks_as c.placing_block.result (HasBase from) _ _ x z (ap (seating_pieces from) (sym c.in-Keep.is))
    (blocks_behind c.placing_block.result HasFirstSlots (HasBase from) (λ code has. has_first [] code has.so_far.slots)
    (pair_tree pairings.Larger shape.List from winners_slot final_seats ∷ []) (place_kept ∷ []) x c.pair_block.new.code.items z
    (blocks_in has_pair c.in_ok-pair_block-in-Keep.ensures.ok) c.placing_block.ensures.ok)

pub returns-in_ok-copy_block-in-Cover : goal.returns-in_ok-copy_block-in-Cover
returns-in_ok-copy_block-in-Cover c =
    let from = c.args.from in
    let x = c.args.code.now.items in
    let z = c.cover_block.new.code.items in
    let has_copy : (code : CountingCode) → HasBase from code → HasCopy shape.List from final_seats code =
    λ code has. record { from_there = has.base; to_there = (has_book_slots [] code has.so_far.slots).passing_are 0 shape.List (omega arith) } in
    let has_low : (code : CountingCode) → HasBase from code → HasSlotsOf c.args.slots.now code =
    λ code has. subst (λ shapes. HasSlotsOf shapes code) (sym c.requires.slots) has.so_far.slots in
    blocks_as c.cover_block.result (HasBase from) _ _ x z (ap (seating_pieces from) (sym c.in-Cover.is))
    (blocks_behind c.cover_block.result (HasSlotsOf c.args.slots.now) (HasBase from) has_low (copy_tree shape.List from final_seats ∷ []) (cover_tree cover_slots ∷ [])
    x c.copy_block.new.code.items z (blocks_in has_copy c.in_ok-copy_block-in-Cover.ensures.ok) c.cover_block.ensures.plan)
