-- The code of a typed book within the limits counts as the book means.
use Rattle.std.proofs.Common.{◌≡◌, ◌↔◌, List, [], ◌∷◌, ◌++◌, length, refl, sym, subst, ◌∙◌}
use Rattle.sl_law_meaning.specs.declared.book.Cond.{Cond}
use Rattle.sl_law_meaning.specs.book.Trees.{BookTree}
use Rattle.sl_law_meaning.specs.book.Typing.{columns_of}
use Rattle.sl_law_meaning.specs.returns.Election.{Election, IsElection}
use Rattle.sl_law_meaning.specs.meaning.Means.{Means}
use Rattle.sl_code_semantics.specs.State.{End, Halted}
use Rattle.sl_code_semantics.specs.Runs.{Ending, Ended, budget_of}
use Rattle.sl_compile_pieces.specs.exprs.Slots.{HasBookSlots}
use Rattle.sl_compile_pieces.specs.closing.Closing.{ClosingsAchieve}
use Rattle.sl_compile_pieces.specs.closing.Trees.{final_seats, vacant_slot, halting}
use Rattle.sl_code_instructions.specs.Codes.{CountingCode}
use Rattle.sl_code_instructions.specs.declared.instr.Instr.{Instr}
use Rattle.sl_compile.specs.Codes.{book_code, AreBookInstrs}
use Rattle.sl_compile.specs.Compiled.{ComesTo, ending_by, IsCompiled}
use Rattle.sl_compile.specs.Laws.{CanCompile, BooksAreCompiled}
use Rattle.sl_compile.proofs.rulebooks.Wanted.{BooksCost}
use Rattle.sl_compile.proofs.rulebooks.KindsOfBooks.{has_so_far}
use Rattle.sl_compile.proofs.rulebooks.Slots.{has_book_slots, book_has_slots, limits_apart, book_has_stages, book_has_as_many, book_has_names, book_stage_slot, book_has_shapes}
use Rattle.sl_compile.proofs.rulebooks.Runs.{IsDone, IsStopped, book_achieves}
use Rattle.sl_compile.proofs.rulebooks.Ends.{IsBookEnd, halts, ends_within}
use Rattle.sl_compile.proofs.rulebooks.Outcomes.{end_means, end_columns}

-- an end is one alone
one_end : (x y : End) → Ended x ≡ Ended y → x ≡ y
one_end x y same = cc

module _ (closings : ClosingsAchieve) (costs : BooksCost) (few : List Cond) (b : BookTree) (can : CanCompile few b) (code : List Instr) (are : AreBookInstrs few b code) where
  abbrev instrs : List Instr
  instrs = are.plans ++ halting b.last.vacate ∷ []

  abbrev whole : CountingCode
  whole = book_code b instrs

  slots : HasBookSlots whole (columns_of [] b.stages)
  slots = has_book_slots (columns_of [] b.stages) whole (book_has_slots b instrs)

  book_end : (e : Election) → IsElection e → (x : End) × (ending_by b whole e ≡ Ended x) × IsBookEnd whole b e x
  book_end e is =
      ends_within are.blocks whole (halting b.last.vacate) refl (has_so_far b instrs) e is (Halted final_seats (vacant_slot b.last.vacate))
      (halts whole e (columns_of [] b.stages) slots b.last.vacate) (IsDone whole b e) (IsStopped b e)
      (book_achieves whole few b e is can.typed (limits_apart b.stages can.limits).1 can.same slots (book_has_stages b instrs can.limits)
      (book_has_as_many b instrs) closings)
      (budget_of (length b.stages) e) (costs few b e can)

  whole_is_compiled : IsCompiled b whole
  whole_is_compiled = record {
    stages = book_has_names b instrs;
    shapes = book_has_shapes b instrs;
    ends = λ e is. ((book_end e is).0, (book_end e is).1);
    means = λ e o is.
        let end = book_end e is in
        subst (λ (x : Ending). Means b e o ↔ ComesTo whole e x o) (sym end.1) (end_means whole b e is can.typed end.0 end.2 o);
    columns = λ e base vacant s is at.
        let end = book_end e is in
        end_columns whole b e slots (book_stage_slot b instrs) end.0 base vacant s end.2
        (one_end end.0 (Halted base vacant s) (sym end.1 ∙ at));
  }

  book_is_compiled : IsCompiled b (book_code b code)
  book_is_compiled = subst (λ (is : List Instr). IsCompiled b (book_code b is)) (sym are.is) whole_is_compiled

pub books_are_compiled_by : ClosingsAchieve → BooksCost → BooksAreCompiled
books_are_compiled_by closings costs few b instrs can are = book_is_compiled closings costs few b can instrs are
