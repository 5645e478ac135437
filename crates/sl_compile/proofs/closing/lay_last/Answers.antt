use Rattle.std.proofs.Common.{ℕ, [], ◌++◌, slice_get, ap, ◌∙◌, arith}
use Rattle.sl_code_instructions.specs.Codes.{CountingCode}
use Rattle.sl_compile_pieces.specs.closing.Trees.{seating_pieces, vacant_pieces}
use Rattle.sl_compile.specs.Codes.{HasSoFar}
use Rattle.sl_compile.proofs.rulebooks.Rows.{blocks_in}
use Rattle.sl_compile.proofs.rulebooks.Slots.{has_book_slots}
use Rattle.sl_compile.specs.inner.Earlier.{columns}
use Rattle.sl_compile.specs.inner.Nodes.{HasBase}
use Rattle.sl_compile.proofs.Places.{blocks_as, blocks_behind}
use Rattle.sl_compile.proofs.Stands.{fewer, base_there}
use Rattle.sl_compile.proofs.closing.lay_last.Goals as goal

pub returns : goal.returns
returns c =
    let last = c.args.last.now in
    let known = columns c.args.earlier.now.stages.now c.args.earlier.now.types.now in
    let x = c.args.code.now.items in
    let y = c.lay_seating.new.code.items in
    let z = c.lay_vacant.new.code.items in
    let Now : CountingCode → Type 0 = HasSoFar known 0 in
    let has_base : (code : CountingCode) → Now code → HasBase c.base_slot-from.result code =
    λ code has. record {
      so_far = fewer known 0 0 (omega arith) code has;
      base = ap (slice_get code.slots) c.base_slot-from.ensures ∙ base_there code known last.at last.base (has_book_slots known code has.slots) c.requires.typed;
    } in
    blocks_as c.lay_vacant.result Now _ _ x z
    (ap (λ (from : ℕ). seating_pieces from last.seating ++ vacant_pieces last.vacate) c.base_slot-from.ensures)
    (blocks_behind c.lay_vacant.result (HasSoFar [] 0) Now (fewer known 0 0 (omega arith)) (seating_pieces c.base_slot-from.result last.seating) (vacant_pieces last.vacate) x y z
    (blocks_in has_base c.in_ok-lay_seating.ensures) c.lay_vacant.ensures)
