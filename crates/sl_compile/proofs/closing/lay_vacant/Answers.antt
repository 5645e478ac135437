use Rattle.std.proofs.Common.{[], ◌∷◌, sym, ap, subst, arith}
use Rattle.sl_law_meaning.specs.declared.fact.Fact.TheVariants as facts
use Rattle.sl_law_meaning.specs.declared.book.Pairing.TheVariants as pairings
use Rattle.sl_base_terms.specs.declared.shape.Shape.TheVariants as shape
use Rattle.sl_code_instructions.specs.declared.instr.Instr.TheVariants.{Input}
use Rattle.sl_code_instructions.specs.declared.operand.Input.TheVariants as input
use Rattle.sl_code_instructions.specs.Codes.{CountingCode}
use Rattle.sl_compile_plans.specs.Trees.{Line}
use Rattle.sl_compile_pieces.specs.columns.Trees.{pair_tree}
use Rattle.sl_compile_pieces.specs.declared.slots.TheConstants.{NAMES_LEFT as names_left, VACANT_SEATS as vacant_seats}
use Rattle.sl_compile_pieces.specs.exprs.Slots.{winners_slot}
use Rattle.sl_compile_pieces.specs.closing.Trees.{final_seats, vacant_pieces}
use Rattle.sl_blocks.specs.PlanBlocks.{AreBlocks, HasPair}
use Rattle.sl_compile.specs.Codes.{HasSoFar}
use Rattle.sl_compile.proofs.rulebooks.Rows.{no_blocks, blocks_then, blocks_in}
use Rattle.sl_compile.proofs.rulebooks.Slots.{has_book_slots, has_first}
use Rattle.sl_compile.proofs.Places.{blocks_as, blocks_behind}
use Rattle.sl_compile.proofs.closing.lay_vacant.Goals as goal

abbrev Now : CountingCode → Type 0
Now = HasSoFar [] 0

unfilled_there : (code : CountingCode) → Now code → HasPair shape.List final_seats winners_slot vacant_seats code
unfilled_there code has =
    let slots = has_book_slots [] code has.slots in
    record { left_there = slots.passing_are 0 shape.List (omega arith); right_there = slots.facts.facts facts.Winners; to_there = slots.vacant_seats_are }

unnamed_there : (code : CountingCode) → Now code → HasPair shape.List vacant_seats names_left vacant_seats code
unnamed_there code has =
    let slots = has_book_slots [] code has.slots in
    record { left_there = slots.vacant_seats_are; right_there = slots.names_left_are; to_there = slots.vacant_seats_are }

pub returns-in-None : goal.returns-in-None
returns-in-None c = subst (λ o. AreBlocks Now (vacant_pieces o) c.args.code.now.items c.args.code.now.items) (sym c.in-None.is) (no_blocks Now c.args.code.now.items)

pub returns-in_ok-pair_block-in-Some : goal.returns-in_ok-pair_block-in-Some
returns-in_ok-pair_block-in-Some c =
    let x = c.args.code.now.items in
    let y = c.pair_block.new.code.items in
    let z = c.pair_block-in-Some.new.code.items in
    let names = Line (Input names_left input.Names ∷ []) in
    let unfilled = pair_tree pairings.Less shape.List final_seats winners_slot vacant_seats in
    let unnamed = pair_tree pairings.Less shape.List vacant_seats names_left vacant_seats in
    blocks_as c.pair_block-in-Some.result Now _ _ x z (ap vacant_pieces (sym c.in-Some.is))
    (blocks_behind c.pair_block-in-Some.result (HasPair shape.List vacant_seats names_left vacant_seats) Now unnamed_there (names ∷ (unfilled ∷ [])) (unnamed ∷ []) x y z
    (blocks_then (blocks_in (λ code (has : Now code). has_first [] code has.slots) c.in_ok-names_block-in-Some.ensures.ok) (blocks_in unfilled_there c.in_ok-pair_block-in-Some.ensures.ok))
    c.pair_block-in-Some.ensures.ok)
