-- The plan of a covering makes a block.
use Rattle.std.proofs.Common.{◌≡◌, ℕ, ◌*◌, ◌<◌, List, ◌++◌, map, length, slice_get, sym, subst, arith}
use Rattle.std.specs.Prelude.{slice_index, slice_index_or}
use Rattle.std.specs.List.{range_with_len}
use Rattle.std.proofs.lemmas.Option.{get_or_from_slice_get}
use Rattle.std.proofs.lemmas.List.FromFn.{get_or-map-range_with_len}
use Rattle.sl_base_terms.specs.declared.shape.Shape.{Shape}
use Rattle.sl_base_terms.specs.declared.shape.Shape.TheVariants as shape
use Rattle.sl_law_meaning.specs.returns.Election.{Election, lands_of, parties_of}
use Rattle.sl_code_instructions.specs.declared.instr.Instr.{Instr}
use Rattle.sl_code_instructions.specs.Codes.{CountingCode}
use Rattle.sl_code_semantics.specs.State.{State}
use Rattle.sl_code_semantics.specs.Runs.{share_of}
use Rattle.sl_code_semantics.specs.Places.{cells_of}
use Rattle.sl_code_semantics.specs.Memories.{column_of}
use Rattle.sl_compile_plans.specs.Laid.{laid}
use Rattle.sl_compile_pieces.specs.covers.Trees.{CoverSlots, cover_tree}
use Rattle.sl_compile_pieces.specs.covers.Covering.{HasCoverSlots, BeginsCovering, AreCovered, EndsInTie}
use Rattle.sl_compile_pieces.proofs.covers.Covering.{coverings_achieve}
use Rattle.sl_blocks.specs.declared.blocks.TheConstants.{MAX_BLOCK_INSTRS}
use Rattle.sl_blocks.specs.Blocks.{HasSlotsOf}
use Rattle.sl_blocks.specs.inner.Covers.{IsCoverJob, flagged, BeginsCover, IsCoverBlock}
use Rattle.sl_compile_pieces.proofs.judged.Covers.{HasCoverShapes, cover_fine}
use Rattle.sl_compile_plans.proofs.Modest.{size_at_most, within_share}
use Rattle.sl_compile_plans.proofs.ProperTrees.{small_ranged}
use Rattle.sl_compile_pieces.proofs.judged.SmallPlans.{judged_modest, cover_judged}
use Rattle.sl_blocks.proofs.Standing.{MakesBlock, MakesPlan, is_block}

module _ (shapes : List Shape) (x : CoverSlots) (job : IsCoverJob shapes x) where
  module _ (code : CountingCode) (has : HasSlotsOf shapes code) where
    has_shapes : HasCoverShapes (slice_get code.slots) x
    has_shapes = record {
      base = has x.base shape.List job.base;
      eligible = has x.eligible shape.Party job.eligible;
      numbers = has x.numbers shape.List job.numbers;
    }

    has_slots : HasCoverSlots code x
    has_slots = record { base = has_shapes.base; eligible = has_shapes.eligible; numbers = has_shapes.numbers; apart = job.apart }

    -- the seats of the lists are what the state holds in their slot
    seats_held : (e : Election) (state : State) (q : ℕ) → q < lands_of e * parties_of e → state.columns x.base q ≡ slice_index (column_of code e state x.base) q
    seats_held e state q within =
        let shape_is : slice_index_or code.slots x.base shape.One ≡ shape.List = get_or_from_slice_get code.slots x.base shape.List shape.One has_shapes.base in
        subst (λ (s : Shape). state.columns x.base q ≡ slice_index (map (state.columns x.base) (range_with_len 0 (cells_of e s))) q) (sym shape_is)
        (sym (get_or-map-range_with_len (state.columns x.base) 0 (lands_of e * parties_of e) q q 0 within (omega arith)))

    begins_covering : (e : Election) (state : State) → BeginsCover x e state → BeginsCovering e x (flagged x state) (column_of code e state x.base) state
    begins_covering e state begins = record { nobody = begins.nobody; seats = seats_held e state; flags = begins.flags }

  pub cover_plan : MakesPlan (HasSlotsOf shapes) (cover_tree x)
  cover_plan = record { ranged = small_ranged _ (cover_judged x).ranged; fine = λ code has. cover_fine x (slice_get code.slots) (length code.stages) (has_shapes code has) }

  cover_makes : MakesBlock share_of MAX_BLOCK_INSTRS (HasSlotsOf shapes) (λ code e state. BeginsCover x e state)
      (λ code e state. AreCovered code e x (flagged x state) (column_of code e state x.base) state)
      (λ code e state. EndsInTie code e (flagged x state) (column_of code e state x.base)) (cover_tree x)
  cover_makes = record {
    short = let less = size_at_most 70 70 220 (cover_tree x) (judged_modest 70 70 220 _ (cover_judged x)) in omega (arith, less);
    in_time = within_share 70 70 220 (cover_tree x) (omega arith) (omega arith) (judged_modest 70 70 220 _ (cover_judged x));
    ranged = cover_plan.ranged;
    fine = cover_plan.fine;
    achieves = λ code e state has is begins.
        coverings_achieve code e x (flagged x state) (column_of code e state x.base) state is (has_slots code has) (begins_covering code has e state begins);
  }

-- the instructions of its plan after a declaration are the block of a covering
pub is_cover_block : (shapes : List Shape) (x : CoverSlots) → IsCoverJob shapes x → (before after : List Instr) →
    after ≡ before ++ laid (length before) (cover_tree x) → IsCoverBlock shapes x before after
is_cover_block shapes x job before after is = is_block share_of MAX_BLOCK_INSTRS _ _ _ _ (cover_tree x) (cover_makes shapes x job) before after is
