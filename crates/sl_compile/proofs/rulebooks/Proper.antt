-- The counting code of a rulebook keeps the limits of its format, and its operands fit their bytes.
use Rattle.std.proofs.Common.{◌≡◌, ℕ, ◌+◌, ◌≤◌, List, [], ◌∷◌, length, All, Option, None, Some, sym, ap, subst, arith, length-append}
use Rattle.std.proofs.lemmas.List.{length-map}
use Rattle.std.proofs.lemmas.List.Elements.{All-nil, All-cons, All-append}
use Rattle.sl_law_meaning.specs.declared.book.Cond.{Cond}
use Rattle.sl_law_meaning.specs.book.Trees.{BookTree}
use Rattle.sl_law_meaning.specs.book.Typing.{Column, columns_of}
use Rattle.sl_code_instructions.specs.declared.instr.Instr.{Instr}
use Rattle.sl_code_instructions.specs.Proper.{IsStage}
use Rattle.sl_code_instructions.specs.Proper.{IsInRange, IsProper}
use Rattle.sl_compile_pieces.specs.declared.slots.TheConstants.{FIRST_STAGE_SLOT}
use Rattle.sl_compile_pieces.specs.closing.Trees.{halting}
use Rattle.sl_compile.specs.Codes.{code_stages, book_slots, book_code, AreBookInstrs}
use Rattle.sl_compile.specs.Laws.{CanCompile}
use Rattle.sl_compile.proofs.rulebooks.Known.{columns_long}
use Rattle.sl_compile.proofs.rulebooks.Rows.{blocks_in_range}
use Rattle.sl_compile.proofs.rulebooks.Slots.{as_many_stages}
use Rattle.sl_compile.proofs.rulebooks.Sizes.{few_stages, books_are_short}

halt_in_range : (vacate : Option ℕ) → IsInRange (halting vacate)
halt_in_range None = (tt, tt)
halt_in_range (Some vacate) = (tt, (tt, tt))

-- ---- stages and slots
length-book_slots : (types : List Column) → length (book_slots types) ≡ FIRST_STAGE_SLOT + length types
length-book_slots types = let rest = length-map types (λ c. c.type.shape) in omega (arith, rest)

-- the names of its stages are words
pub books_are_proper : (few : List Cond) (b : BookTree) (instrs : List Instr) → CanCompile few b → AreBookInstrs few b instrs → All IsStage (code_stages 0 b.stages)
    → IsProper (book_code b instrs)
books_are_proper few b instrs can are words =
    let halt : List Instr = halting b.last.vacate ∷ [] in
    let few_instrs : length instrs ≤ 50000 = books_are_short few b instrs can are in
    let stages = few_stages b.stages can.limits in
    let columns = columns_long b.stages in
    record {
      limits = record {
        instrs = omega (arith, few_instrs);
        stages = let same = as_many_stages 0 b.stages in omega (arith, same, stages);
        slots = let slots = length-book_slots (columns_of [] b.stages) in omega (arith, slots, columns, stages);
      };
      words = words;
      in_range = subst (λ (is : List Instr). All IsInRange is) (sym are.is)
          (All-append IsInRange are.plans halt (blocks_in_range are.blocks (omega (arith, few_instrs, ap length are.is, length-append are.plans halt)))
          (All-cons IsInRange (halting b.last.vacate) [] (halt_in_range b.last.vacate) (All-nil IsInRange)));
    }
