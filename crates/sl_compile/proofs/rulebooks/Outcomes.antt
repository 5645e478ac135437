-- The end of a book's code is the outcome that the book means, and where it is done the columns of the stages stand in their slots.
use Rattle.std.proofs.Common.{◌≡◌, ◌↔◌, ℕ, ◌≤◌, true, List, [], ◌++◌, Option, Some, None, length, slice_get, get_or, filter_map, option_map, unwrap_or, zip, IsPermutation, refl, sym, ap, subst, ◌∙◌, inl, inr, arith}
use Rattle.std.proofs.lemmas.List.Sorted.{IsPermutation-refl}
use Rattle.std.proofs.lemmas.Option.{slice_get_within, slice_get_cases, get_or_from_slice_get}
use Rattle.std.proofs.lemmas.Slice.Zip.{AllZip-long}
use Rattle.sl_law_meaning.specs.declared.book.Seating.{Seating}
use Rattle.sl_law_meaning.specs.declared.book.Seating.TheVariants as seating
use Rattle.sl_base_terms.specs.declared.shape.Shape.{Shape}
use Rattle.sl_base_terms.specs.declared.shape.Shape.TheVariants as shape
use Rattle.sl_law_meaning.specs.declared.fault.LegalFault.{LegalFault}
use Rattle.sl_law_meaning.specs.declared.table.Outcome.{Outcome}
use Rattle.sl_law_meaning.specs.declared.table.Outcome.TheVariants as outcome
use Rattle.sl_law_meaning.specs.declared.table.SeatStep.{SeatStep}
use Rattle.sl_law_meaning.specs.declared.table.Weight.{Weight}
use Rattle.sl_law_meaning.specs.book.Trees.{BookTree}
use Rattle.sl_law_meaning.specs.book.Typing.{Column, columns_of, is_typed}
use Rattle.sl_law_meaning.specs.returns.Election.{Election, IsElection}
use Rattle.sl_law_meaning.specs.returns.Facts.{lists_of, is_eligible}
use Rattle.sl_law_meaning.specs.meaning.Columns.{NamedColumn}
use Rattle.sl_law_meaning.specs.meaning.Records.{Records}
use Rattle.sl_law_meaning.specs.meaning.Seating.{keep_table, cover_table, tie_of}
use Rattle.sl_law_meaning.specs.meaning.Tables.{SeatTable}
use Rattle.sl_law_meaning.specs.meaning.Means.{Through, IsSeated, IsOutcome, Means}
use Rattle.sl_law_meaning.specs.laws.ColumnLaws.{IsTypedAs}
use Rattle.sl_law_meaning.proofs.meaning.MeaningProofs.{same_itself, at_most_one_outcome, any_order}
use Rattle.sl_law_meaning.proofs.meaning.RecordsOnce.{records_once}
use Rattle.sl_code_instructions.specs.declared.code.CodeStage.{CodeStage}
use Rattle.sl_code_instructions.specs.Codes.{CountingCode}
use Rattle.sl_code_semantics.specs.State.{State, End, Halted, Faulted}
use Rattle.sl_code_semantics.specs.Runs.{Ended}
use Rattle.sl_code_semantics.specs.Places.{cells_of}
use Rattle.sl_code_semantics.specs.Memories.{held_of, column_of}
use Rattle.sl_code_semantics.specs.Tables.{held_table}
use Rattle.sl_code_semantics.proofs.effects.Storing.{column_by_cells}
use Rattle.sl_compile_pieces.specs.columns.Columns.{HoldsColumn}
use Rattle.sl_compile_pieces.specs.declared.slots.TheConstants.{FIRST_STAGE_SLOT}
use Rattle.sl_compile_pieces.specs.exprs.Slots.{stage_slot, HasBookSlots}
use Rattle.sl_compile_pieces.specs.closing.Trees.{final_seats, vacant_slot}
use Rattle.sl_compile.specs.Compiled.{ComesTo, HasStageColumns}
use Rattle.sl_compile.proofs.rulebooks.Known.{known_types}
use Rattle.sl_compile.proofs.rulebooks.Runs.{IsDone}
use Rattle.sl_compile.proofs.rulebooks.Ends.{IsBookEnd}
use Rattle.sl_compile_pieces.proofs.columns.Cells.{still_holds}

-- ---- a table has the records of its stages

record HasRecords (r : Records) (t : SeatTable) : Type 0 where
  steps : t.steps ≡ r.steps
  weights : t.weights ≡ r.weights

module _ (b : BookTree) (e : Election) (r : Records) (t : SeatTable) where
  of_table : (u : SeatTable) → u.steps ≡ r.steps → u.weights ≡ r.weights → outcome.Table t ≡ outcome.Table u → HasRecords r t
  of_table u steps weights same =
      let is : t ≡ u = cc in
      record { steps = ap (λ (x : SeatTable). x.steps) is ∙ steps; weights = ap (λ (x : SeatTable). x.weights) is ∙ weights }

  of_either : (tie : Option LegalFault) (u : SeatTable) → u.steps ≡ r.steps → u.weights ≡ r.weights →
      outcome.Table t ≡ unwrap_or (option_map (λ f. outcome.Fault f) tie) (outcome.Table u) → HasRecords r t
  of_either (Some f) u steps weights is = cc
  of_either None u steps weights is = of_table u steps weights is

  seated_has : (s : Seating) (base : List ℕ) → IsSeated b e s base r (outcome.Table t) → HasRecords r t
  seated_has seating.Keep base is = of_table (keep_table b e base r) refl refl is
  seated_has seating.Cover base is =
      of_either (slice_get (filter_map (tie_of (is_eligible b.eligible e) e (length b.stages)) (zip (lists_of e) is.choices)) 0)
      (cover_table b e base r (zip (lists_of e) is.choices)) refl refl is.is

-- ---- the table that is held

-- what was added to nothing
added_only : {X : Type 0} (all before added : List X) → all ≡ before ++ added → before ≡ [] → all ≡ added
added_only all before added is none = is ∙ ap (λ xs. xs ++ added) none

module _ (c : CountingCode) (b : BookTree) (e : Election) (is : IsElection e) (typed : is_typed b ≡ true) where
  module _ (s : State) (h : IsDone c b e s) where
    abbrev held : SeatTable
    held = held_table e (held_of c e final_seats (vacant_slot b.last.vacate) s)

    has : HasRecords h.known.records h.closed.table
    has = seated_has b e h.known.records h.closed.table b.last.seating h.closed.means.base h.closed.means.seated

    steps_added : s.steps ≡ h.behind.adds.added
    steps_added = h.closed.steps ∙ added_only h.staged.steps h.told.steps h.behind.adds.added h.behind.adds.steps h.blank.steps

    weights_added : s.weights ≡ h.known.records.weights
    weights_added = h.closed.weights ∙ added_only h.staged.weights h.told.weights h.known.records.weights h.behind.adds.weights h.blank.weights

    same_steps : IsPermutation s.steps h.closed.table.steps
    same_steps =
        subst (λ (xs : List SeatStep). IsPermutation xs h.closed.table.steps) (sym steps_added)
        (subst (λ (xs : List SeatStep). IsPermutation h.behind.adds.added xs) (sym has.steps) h.behind.adds.are)

    same_weights : IsPermutation s.weights h.closed.table.weights
    same_weights = subst (λ (xs : List Weight). IsPermutation s.weights xs) (weights_added ∙ sym has.weights) (IsPermutation-refl s.weights)

    table_meant : Means b e (outcome.Table h.closed.table)
    table_meant = record {
      ordered = outcome.Table h.closed.table;
      is = record { run = Through h.known; stages = h.means; ends = h.closed.means };
      same = same_itself (outcome.Table h.closed.table);
    }

    -- it is the book's outcome
    held_meant : Means b e (outcome.Table held)
    held_meant = any_order b e h.closed.table held table_meant (record { lists = h.closed.lists; placed = h.closed.placed; steps = same_steps; weights = same_weights })

    abbrev done : End
    done = Halted final_seats (vacant_slot b.last.vacate) s

    done_comes : (o : Outcome) → Means b e o → ComesTo c e (Ended done) o
    done_comes (outcome.Table t) means =
        record { same = at_most_one_outcome b e typed is (outcome.Table t) (outcome.Table held) means held_meant; once = records_once b e held typed held_meant }
    done_comes (outcome.Fault f) means = absurd (at_most_one_outcome b e typed is (outcome.Fault f) (outcome.Table held) means held_meant)

    done_means : (o : Outcome) → ComesTo c e (Ended done) o → Means b e o
    done_means (outcome.Table t) comes = any_order b e held t held_meant comes.same
    done_means (outcome.Fault f) comes = absurd comes

  -- ---- a fault

  module _ (f : LegalFault) (fault : IsOutcome b e (outcome.Fault f)) where
    fault_meant : Means b e (outcome.Fault f)
    fault_meant = record { ordered = outcome.Fault f; is = fault; same = refl }

    fault_comes : (o : Outcome) → Means b e o → ComesTo c e (Ended (Faulted f)) o
    fault_comes (outcome.Table t) means = absurd (at_most_one_outcome b e typed is (outcome.Table t) (outcome.Fault f) means fault_meant)
    fault_comes (outcome.Fault g) means = at_most_one_outcome b e typed is (outcome.Fault f) (outcome.Fault g) fault_meant means

    fault_means : (o : Outcome) → ComesTo c e (Ended (Faulted f)) o → Means b e o
    fault_means (outcome.Table t) comes = absurd comes
    fault_means (outcome.Fault g) comes = subst (λ (x : LegalFault). Means b e (outcome.Fault x)) comes fault_meant

  -- ---- either end

  -- the book means exactly what the end comes to
  pub end_means : (x : End) → IsBookEnd c b e x → (o : Outcome) → Means b e o ↔ ComesTo c e (Ended x) o
  end_means x (inl at) o =
      subst (λ (y : End). Means b e o ↔ ComesTo c e (Ended y) o) (sym at.1) (done_comes at.0 at.2 o, done_means at.0 at.2 o)
  end_means x (inr stopped) o =
      subst (λ (y : End). Means b e o ↔ ComesTo c e (Ended y) o) (sym stopped.is)
      (fault_comes stopped.fault stopped.means o, fault_means stopped.fault stopped.means o)

-- ---- the columns of the stages

-- a column that a slot of its shape holds is what is read of the slot
column_read : (c : CountingCode) (e : Election) (s : State) (slot : ℕ) (of : Shape) (values : List ℕ) → slice_get c.slots slot ≡ Some of →
    HoldsColumn e of (s.columns slot) values → column_of c e s slot ≡ values
column_read c e s slot of values at h =
    let width : cells_of e (get_or c.slots slot shape.One) ≡ cells_of e of = ap (cells_of e) (get_or_from_slice_get c.slots slot of shape.One at) in
    sym (column_by_cells c e s slot values (h.long ∙ sym width) (λ q below. sym (h.at q (omega (arith, below, width)))))

-- where a list is as long as another, it has an element at each place of that
pub as_long : {X Y : Type 0} (xs : List X) (ys : List Y) (n : ℕ) (y : Y) → length ys ≡ length xs → slice_get ys n ≡ Some y → (x : X) × (slice_get xs n ≡ Some x)
as_long xs ys n y long at =
    let below = slice_get_within ys n y at in
    elim ((slice_get_cases xs n).1) [ inl there ↦ (there.0, there.2) | inr past ↦ (let past_end = past.0 in absurd (omega (arith, below, long, past_end))) ]

module _ (c : CountingCode) (b : BookTree) (e : Election) (slots : HasBookSlots c (columns_of [] b.stages))
    (numbered : (n : ℕ) (stage : CodeStage) → slice_get c.stages n ≡ Some stage → stage.slot ≡ stage_slot n)
  where
    module _ (s : State) (h : IsDone c b e s) where
      column_kept : (n : ℕ) (t : Column) (x : NamedColumn) → slice_get h.known.types n ≡ Some t → slice_get h.known.columns n ≡ Some x →
          HoldsColumn e t.type.shape (s.columns (stage_slot n)) x.values
      column_kept n t x type named =
          let high : FIRST_STAGE_SLOT ≤ stage_slot n = omega arith in
          still_holds e t.type.shape (h.staged.columns (stage_slot n)) (s.columns (stage_slot n)) x.values (λ q. h.closed.columns (stage_slot n) q high)
          (h.behind.known.stages n t x type named)

      column_there : (n : ℕ) (x : NamedColumn) → slice_get h.known.columns n ≡ Some x → column_of c e s (stage_slot n) ≡ x.values
      column_there n x named =
          let types : h.known.types ≡ columns_of [] b.stages = known_types b e h.known h.means in
          let one = as_long h.known.types h.known.columns n x (AllZip-long (IsTypedAs e) h.known.types h.known.columns h.behind.typed) named in
          column_read c e s (stage_slot n) one.0.type.shape x.values
          (slots.stages_are n one.0 (subst (λ (ts : List Column). slice_get ts n ≡ Some one.0) types one.1))
          (column_kept n one.0 x one.1 named)

      columns_there : HasStageColumns b c e s
      columns_there = record {
        known = h.known;
        means = h.means;
        columns = λ n stage x at named. ap (column_of c e s) (numbered n stage at) ∙ column_there n x named;
      }

    -- where the run is done, they stand in their slots
    pub end_columns : (x : End) (base : ℕ) (vacant : Option ℕ) (s : State) → IsBookEnd c b e x → x ≡ Halted base vacant s → HasStageColumns b c e s
    end_columns x base vacant s (inl at) is =
        let same : at.0 ≡ s = halted_state at.0 s (sym at.1 ∙ is) in
        subst (λ (t : State). HasStageColumns b c e t) same (columns_there at.0 at.2)
      where
        halted_state : (t u : State) → Halted final_seats (vacant_slot b.last.vacate) t ≡ Halted base vacant u → t ≡ u
        halted_state t u same = cc
    end_columns x base vacant s (inr stopped) is = absurd (no_halt stopped.fault (sym stopped.is ∙ is))
      where
        no_halt : (f : LegalFault) → Faulted f ≡ Halted base vacant s → ⊥
        no_halt f same = cc
