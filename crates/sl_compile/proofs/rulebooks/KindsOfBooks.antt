-- The verifier accepts the code of a rulebook.
use Rattle.std.proofs.Common.{◌≡◌, ℕ, ◌+◌, true, List, [], ◌∷◌, ◌++◌, length, Option, None, Some, slice_get, refl, sym, ap, subst, ◌∙◌, arith, length-append}
use Rattle.std.specs.Prelude.{is_some}
use Rattle.std.specs.List.{list_all}
use Rattle.std.proofs.Math.Bool.{or-true}
use Rattle.sl_law_meaning.specs.declared.book.Cond.{Cond}
use Rattle.sl_base_terms.specs.declared.shape.Shape.TheVariants as shape
use Rattle.sl_law_meaning.specs.book.Trees.{StageTree, BookTree}
use Rattle.sl_law_meaning.specs.book.Typing.{Column, type_of, stage_column, columns_of}
use Rattle.sl_code_instructions.specs.declared.instr.Instr.{Instr}
use Rattle.sl_code_instructions.specs.declared.instr.Instr.TheVariants.{Halt, Haltv}
use Rattle.sl_code_instructions.specs.declared.kinds.Kinds.{Kinds}
use Rattle.sl_code_instructions.specs.Codes.{CountingCode}
use Rattle.sl_code_semantics.specs.Kinds.{start_kinds, covers, no_cursors}
use Rattle.sl_code_semantics.specs.Needs.{has_slot, has_needs}
use Rattle.sl_code_semantics.specs.Pieces.{comes_after, are_passed}
use Rattle.sl_code_semantics.specs.WellKinded.{context_of, IsWellKinded}
use Rattle.sl_code_semantics.proofs.kinds.Passing.{both_hold}
use Rattle.sl_code_semantics.proofs.kinds.PieceFacts.{comes_in_row, passed_in_row}
use Rattle.sl_code_semantics.proofs.kinds.Kinded.{kinded_as_passed}
use Rattle.sl_compile_plans.specs.Fine.{ArePassed}
use Rattle.sl_compile_pieces.specs.declared.slots.TheConstants.{VACANT_SEATS as vacant_seats}
use Rattle.sl_compile_pieces.specs.exprs.Slots.{stage_slot, HasBookSlots}
use Rattle.sl_compile_pieces.proofs.exprs.StageRules.{last_there, extended}
use Rattle.sl_compile_pieces.specs.closing.Trees.{final_seats, halting}
use Rattle.sl_blocks.specs.Blocks.{PassesOn}
use Rattle.sl_compile.specs.Codes.{code_stages, book_code, HasSoFar, AreBookInstrs}
use Rattle.sl_compile.specs.Laws.{BooksAreKinded}
use Rattle.sl_compile.proofs.rulebooks.Rows.{blocks_pass}
use Rattle.sl_compile.proofs.rulebooks.Slots.{has_book_slots, book_has_slots, as_many_stages}

-- ---- the stages of the code

-- the slot of the first stage that is left
own_slot : (code : CountingCode) (types : List Column) (k : ℕ) (s : StageTree) (ss : List StageTree) → k ≡ length types → HasBookSlots code (columns_of types (s ∷ ss))
    → slice_get code.slots (stage_slot k) ≡ Some (type_of types s.expr).shape
own_slot code types k s ss is slots =
    slots.stages_are k (stage_column types s)
    (extended (types ++ stage_column types s ∷ []) ss k (stage_column types s) (last_there types (stage_column types s) k is))

one_more : (types : List Column) (c : Column) (k : ℕ) → k ≡ length types → k + 1 ≡ length (types ++ c ∷ [])
one_more types c k is = omega (arith, is, length-append types (c ∷ []))

-- the slot of each is there
slots_there : (code : CountingCode) (types : List Column) (k : ℕ) (ss : List StageTree) → k ≡ length types → HasBookSlots code (columns_of types ss)
    → list_all (λ s. has_slot (context_of code) s.slot) (code_stages k ss) ≡ true
slots_there code types k [] is slots = refl
slots_there code types k (s ∷ ss) is slots =
    both_hold (has_slot (context_of code) (stage_slot k)) _ (ap is_some (own_slot code types k s ss is slots))
    (slots_there code (types ++ stage_column types s ∷ []) (k + 1) ss (one_more types (stage_column types s) k is) slots)

module _ (code : CountingCode) where
  -- ---- the halt

  -- any cursors are enough for it
  none_asked : (k : Kinds) → covers k.cursors no_cursors ≡ true
  none_asked k = both_hold _ _ (both_hold _ _ (or-true k.cursors.party) (or-true k.cursors.land)) (or-true k.cursors.win)

  halt_needs : (k : Kinds) (slot : ℕ) → slice_get code.slots slot ≡ Some shape.List → has_needs (context_of code) k (Halt slot) ≡ true
  halt_needs k slot is = rw (is, none_asked k) refl

  haltv_needs : (k : Kinds) (slot other : ℕ) → slice_get code.slots slot ≡ Some shape.List → slice_get code.slots other ≡ Some shape.List
      → has_needs (context_of code) k (Haltv slot other) ≡ true
  haltv_needs k slot other is too = rw (is, too, none_asked k) refl

  pub halting_passes : (types : List Column) → HasBookSlots code types → (k : Kinds) (vacate : Option ℕ) → ArePassed (context_of code) (Some k) (halting vacate ∷ []) None
  halting_passes types slots k None =
      let final : slice_get code.slots final_seats ≡ Some shape.List = slots.passing_are 0 shape.List (omega arith) in
      record { passed = rw (halt_needs k final_seats final) refl; after = refl }
  halting_passes types slots k (Some at) =
      let final : slice_get code.slots final_seats ≡ Some shape.List = slots.passing_are 0 shape.List (omega arith) in
      record { passed = rw (haltv_needs k final_seats vacant_seats final slots.vacant_seats_are) refl; after = refl }

-- ---- the whole

-- the code of a book has the slots and the stages for all of its blocks
pub has_so_far : (b : BookTree) (instrs : List Instr) → HasSoFar (columns_of [] b.stages) (length b.stages) (book_code b instrs)
has_so_far b instrs = record { slots = book_has_slots b instrs; stages = let many = as_many_stages 0 b.stages in omega (arith, many) }

module _ (few : List Cond) (b : BookTree) (code : List Instr) (are : AreBookInstrs few b code) where
  abbrev whole : CountingCode
  whole = book_code b (are.plans ++ halting b.last.vacate ∷ [])

  slots : HasBookSlots whole (columns_of [] b.stages)
  slots = has_book_slots (columns_of [] b.stages) whole (book_has_slots b (are.plans ++ halting b.last.vacate ∷ []))

  passes : PassesOn whole (Some start_kinds) are.plans
  passes = blocks_pass are.blocks whole (halting b.last.vacate ∷ []) refl (has_so_far b (are.plans ++ halting b.last.vacate ∷ []))

  halts : ArePassed (context_of whole) (Some passes.kinds) (halting b.last.vacate ∷ []) None
  halts = halting_passes whole (columns_of [] b.stages) slots passes.kinds b.last.vacate

  all_passed : are_passed (context_of whole) (Some start_kinds) (are.plans ++ halting b.last.vacate ∷ []) ≡ true
  all_passed =
      passed_in_row (context_of whole) (Some start_kinds) are.plans (halting b.last.vacate ∷ [])
      ∙ both_hold (are_passed (context_of whole) (Some start_kinds) are.plans)
      (are_passed (context_of whole) (comes_after (Some start_kinds) are.plans) (halting b.last.vacate ∷ [])) passes.passed
      (ap (λ k. are_passed (context_of whole) k (halting b.last.vacate ∷ [])) passes.leaves ∙ halts.passed)

  nothing_behind : comes_after (Some start_kinds) (are.plans ++ halting b.last.vacate ∷ []) ≡ None
  nothing_behind =
      comes_in_row (Some start_kinds) are.plans (halting b.last.vacate ∷ [])
      ∙ ap (λ k. comes_after k (halting b.last.vacate ∷ [])) passes.leaves ∙ halts.after

  pub book_is_kinded : IsWellKinded (book_code b code)
  book_is_kinded =
      subst (λ (is : List Instr). IsWellKinded (book_code b is)) (sym are.is)
      ((kinded_as_passed whole).1 (slots_there whole [] 0 b.stages refl slots, all_passed, nothing_behind))

pub books_are_kinded : BooksAreKinded
books_are_kinded few b instrs can are = book_is_kinded few b instrs are
