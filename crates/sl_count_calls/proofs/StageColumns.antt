-- The columns that a run holds are those of the stages.
use Rattle.std.proofs.Common.{◌≡◌, ℕ, ◌<◌, All, List, [], Option, Some, length, map, get_or, slice_get, sym, ap, ◌∙◌, arith}
use Rattle.std.proofs.lemmas.List.{get_or-map, length-map}
use Rattle.std.proofs.lemmas.Option.{get_or_from_slice_get, slice_get-get_or, slice_get_within}
use Rattle.sl_compile.proofs.rulebooks.Known.{columns_long, known_long}
use Rattle.sl_compile.proofs.rulebooks.Outcomes.{as_long}
use Rattle.sl_compile.proofs.rulebooks.StageColumns.{StageStands, code_stages_long, slot_held, stage_shape, stage_stands}
use Rattle.sl_compile.specs.Compiled.{HasStageColumns, IsCompiled, ending_by}
use Rattle.sl_count_calls.proofs.Maps.{map_twice, maps_same}
use Rattle.sl_count_calls.specs.Outcomes.{IsLong}
use Rattle.sl_count_calls.specs.inner.Held.{Cells, HasSlots, held_column, plain}
use Rattle.sl_law_meaning.specs.meaning.Counts.{HoldsStages}
use Rattle.sl_law_meaning.specs.declared.count.Column.{Column}
use Rattle.sl_code_instructions.specs.Codes.{CountingCode}
use Rattle.sl_code_instructions.specs.declared.code.CodeStage.{CodeStage}
use Rattle.sl_code_semantics.specs.Memories.{Held, column_of, held_of}
use Rattle.sl_code_semantics.specs.Places.{cells_of}
use Rattle.sl_code_semantics.specs.Runs.{Ended}
use Rattle.sl_code_semantics.specs.State.{Halted, State}
use Rattle.sl_law_meaning.specs.book.Trees.{BookTree}
use Rattle.sl_law_meaning.specs.book.Typing.{Column as TypedColumn, columns_of}
use Rattle.sl_law_meaning.specs.meaning.Columns.{NamedColumn}
use Rattle.sl_law_meaning.specs.returns.Election.{Election, IsElection}
use Rattle.sl_table.proofs.StageSlots.{column_length}
use Rattle.sl_base_terms.specs.declared.shape.Shape.TheVariants as shape

module _ (b : BookTree) (c : CountingCode) (is : IsCompiled b c) where
  -- as many types as stages of the code
  types_long : length c.stages ≡ length (columns_of [] b.stages)
  types_long = code_stages_long b c is ∙ sym (columns_long b.stages)

  -- each stage of the code has a slot
  pub has_slots : HasSlots c
  has_slots k d within =
      let at : slice_get c.stages k ≡ Some (get_or c.stages k d) = slice_get-get_or c.stages k d within in
      let of = as_long (columns_of [] b.stages) c.stages k (get_or c.stages k d) types_long at in
      slice_get_within c.slots (get_or c.stages k d).slot of.0.type.shape (stage_shape b c is k (get_or c.stages k d) of.0 at of.1)

  module _ (h : Held) (xs : List Column) (held : map plain xs ≡ map (λ s. held_column c h s.slot) c.stages) where
    -- there are as many columns as stages
    pub each_stage : length xs ≡ length c.stages
    each_stage = sym (length-map xs plain) ∙ ap (λ (zs : List Cells). length zs) held ∙ length-map c.stages (λ (s : CodeStage). held_column c h s.slot)

    cells_held : map (λ (x : Column). x.cells.items) xs ≡ map (λ (s : CodeStage). get_or h.columns s.slot []) c.stages
    cells_held = sym (map_twice plain (λ (p : Cells). p.cells) xs) ∙ ap (map (λ (p : Cells). p.cells)) held ∙ map_twice (λ (s : CodeStage). held_column c h s.slot) (λ (p : Cells). p.cells) c.stages

    shapes_held : map (λ (x : Column). x.shape) xs ≡ map (λ (s : CodeStage). get_or c.slots s.slot shape.One) c.stages
    shapes_held = sym (map_twice plain (λ (p : Cells). p.shape) xs) ∙ ap (map (λ (p : Cells). p.shape)) held ∙ map_twice (λ (s : CodeStage). held_column c h s.slot) (λ (p : Cells). p.shape) c.stages

    -- of the shapes of the stages
    shapes_typed : map (λ (x : Column). x.shape) xs ≡ map (λ (t : TypedColumn). t.type.shape) (columns_of [] b.stages)
    shapes_typed =
        shapes_held
        ∙ maps_same (λ (s : CodeStage). get_or c.slots s.slot shape.One) (λ (t : TypedColumn). t.type.shape) c.stages (columns_of [] b.stages) types_long
        (λ n s t at typed. get_or_from_slice_get c.slots s.slot t.type.shape shape.One (stage_shape b c is n s t at typed))

    -- and with the values of the stages, where the run is done
    pub holds_stages : (e : Election) (base : ℕ) (vacant : Option ℕ) (s : State) → IsElection e → ending_by b c e ≡ Ended (Halted base vacant s)
        → h.columns ≡ (held_of c e base vacant s).columns → HoldsStages b e xs
    holds_stages e base vacant s in_range ends same =
        let has : HasStageColumns b c e s = is.columns e base vacant s in_range ends in
        record {
          known = has.known;
          means = has.means;
          cells =
              cells_held
              ∙ maps_same (λ (st : CodeStage). get_or h.columns st.slot []) (λ (x : NamedColumn). x.values) c.stages has.known.columns
              (code_stages_long b c is ∙ sym (known_long b e has.known has.means))
              (λ n st x at there. value e base vacant s has same n st x at there);
          shapes = shapes_typed;
        }
      where
        value : (e : Election) (base : ℕ) (vacant : Option ℕ) (s : State) (has : HasStageColumns b c e s) → h.columns ≡ (held_of c e base vacant s).columns
            → (n : ℕ) (st : CodeStage) (x : NamedColumn) → slice_get c.stages n ≡ Some st → slice_get has.known.columns n ≡ Some x → get_or h.columns st.slot [] ≡ x.values
        value e base vacant s has same n st x at there =
            let stands : StageStands c e s has.known n st = stage_stands b c e s is has n st at in
            ap (λ (columns : List (List ℕ)). get_or columns st.slot []) same
            ∙ get_or_from_slice_get (held_of c e base vacant s).columns st.slot (column_of c e s st.slot) [] (slot_held c e base vacant s st.slot stands.type.type.shape stands.shape)
            ∙ has.columns n st x at there

    -- each as long as its shape says
    pub all_long : (e : Election) → map length h.columns ≡ map (cells_of e) c.slots → All (IsLong e) xs
    all_long e long k d within =
        let here : k < length c.stages = omega (arith, within, each_stage) in
        let stage : CodeStage = get_or c.stages k (record { name = []; slot = 0 }) in
        let cells : (get_or xs k d).cells.items ≡ get_or h.columns stage.slot [] =
        sym (get_or-map (λ (x : Column). x.cells.items) xs k d [] within) ∙ ap (λ (zs : List (List ℕ)). get_or zs k []) cells_held
        ∙ get_or-map (λ (s : CodeStage). get_or h.columns s.slot []) c.stages k (record { name = []; slot = 0 }) [] here in
        let of : (get_or xs k d).shape ≡ get_or c.slots stage.slot shape.One =
        sym (get_or-map (λ (x : Column). x.shape) xs k d shape.One within) ∙ ap (λ zs. get_or zs k shape.One) shapes_held
        ∙ get_or-map (λ (s : CodeStage). get_or c.slots s.slot shape.One) c.stages k (record { name = []; slot = 0 }) shape.One here in
        let slot : stage.slot < length c.slots = has_slots k (record { name = []; slot = 0 }) here in
        let many : length h.columns ≡ length c.slots = sym (length-map h.columns length) ∙ ap length long ∙ length-map c.slots (cells_of e) in
        ap length cells
        ∙ column_length e h.columns c.slots long stage.slot (get_or h.columns stage.slot []) (slice_get-get_or h.columns stage.slot [] (omega (arith, slot, many)))
        ∙ ap (cells_of e) (sym of)
