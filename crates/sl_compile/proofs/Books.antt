-- The code of a whole book: its plans have room, its parts are those of the book, it is proper, and it counts as the book means.
use Rattle.std.proofs.Common.{◌≡◌, ℕ, ◌≤◌, List, [], ◌∷◌, ◌++◌, true, All, None, length, map, take, sym, ap, subst, ◌∙◌, arith}
use Rattle.std.proofs.lemmas.List.{length-map}
use Rattle.sl_law_meaning.specs.declared.book.Cond.{Cond}
use Rattle.sl_law_meaning.specs.declared.book.Book.{Book}
use Rattle.sl_law_meaning.specs.declared.book.Stage.{Stage}
use Rattle.sl_base_terms.specs.declared.shape.Shape.{Shape}
use Rattle.sl_law_meaning.specs.declared.book.ColumnType.{ColumnType}
use Rattle.sl_base_terms.specs.declared.limits.TheConstants.{MAX_STAGES}
use Rattle.sl_law_meaning.specs.book.Trees.{BookTree, stage_of}
use Rattle.sl_law_meaning.specs.book.Books.{book_of}
use Rattle.sl_law_meaning.specs.book.Limits.{is_within_limits}
use Rattle.sl_base_terms.specs.Tests.{first_failing}
use Rattle.sl_law_meaning.specs.book.Typing.{Column, columns_of, base_tests, is_typed}
use Rattle.sl_code_instructions.specs.declared.code.CodeStage.{CodeStage}
use Rattle.sl_code_instructions.specs.declared.instr.Instr.{Instr}
use Rattle.sl_code_instructions.specs.Codes.{CountingCode}
use Rattle.sl_code_instructions.specs.Proper.{IsStage}
use Rattle.sl_code_instructions.specs.Proper.{IsProper}
use Rattle.sl_compile_plans.specs.Trees.{Tree}
use Rattle.sl_compile_pieces.specs.closing.Trees.{last_pieces, halting}
use Rattle.sl_compile_pieces.specs.exprs.Stages.{stages_pieces}
use Rattle.sl_compile_pieces.proofs.closing.Closings.{closings_achieve}
use Rattle.sl_blocks.specs.Facts.{HasFirstSlots}
use Rattle.sl_blocks.specs.PlanBlocks.{AreBlocks, HasRoom}
use Rattle.sl_compile.specs.Codes.{facts_pieces, book_pieces, code_stages, book_code, HasSoFar, AreBookInstrs}
use Rattle.sl_compile.specs.Conditions.{SayTheSame}
use Rattle.sl_compile.specs.Compiled.{IsCompiled}
use Rattle.sl_compile.specs.Laws.{CanCompile}
use Rattle.sl_compile.proofs.rulebooks.Rows.{blocks_then, blocks_in}
use Rattle.sl_compile.proofs.rulebooks.Sizes.{few_stages, books_fit}
use Rattle.sl_compile.proofs.rulebooks.Proper.{books_are_proper}
use Rattle.sl_compile.proofs.rulebooks.Books.{books_are_compiled_by}
use Rattle.sl_compile.proofs.rulebooks.Costs.{books_cost}
use Rattle.sl_compile.proofs.rulebooks.KindsOfBooks.{books_are_kinded}
use Rattle.sl_compile.proofs.rulebooks.Slots.{has_first}
use Rattle.sl_code_semantics.specs.WellKinded.{IsWellKinded}
use Rattle.sl_compile.specs.inner.Codes.{IsCodeOf}
use Rattle.sl_compile.specs.inner.Slots.{low_shapes}
use Rattle.sl_compile.specs.inner.Earlier.{columns}
use Rattle.sl_compile.proofs.Wholes.{passes, facts_room, stages_room, last_room, slots_are}

-- ---- the whole book

-- room for its plans
pub book_room : (few : List Cond) (b : BookTree) → CanCompile few b → HasRoom (book_pieces few b) []
book_room few b can = let fit = books_fit few b can in omega (arith, fit)

pub book_facts_room : (few : List Cond) (k : Book) → CanCompile few (book_of k) → (before : List Instr) → before ≡ [] → HasRoom (facts_pieces few (book_of k)) before
book_facts_room few k can before empty =
    subst (λ (xs : List Instr). HasRoom (facts_pieces few (book_of k)) xs) (sym empty)
    (facts_room (facts_pieces few (book_of k)) (stages_pieces [] 0 (map stage_of k.stages.items)) (last_pieces (columns_of [] (map stage_of k.stages.items)) k.last)
    (book_room few (book_of k) can))

-- the blocks of its facts, of its stages and of its last clause, one after the other
module _ (few : List Cond) (k : Book) (can : CanCompile few (book_of k)) (before x : List Instr) (empty : before ≡ [])
    (first : AreBlocks HasFirstSlots (facts_pieces few (book_of k)) before x) where
  abbrev facts : List Tree
  facts = facts_pieces few (book_of k)

  abbrev stages : List Tree
  stages = stages_pieces [] 0 (map stage_of k.stages.items)

  abbrev types : List Column
  types = columns_of [] (map stage_of k.stages.items)

  abbrev last : List Tree
  last = last_pieces types k.last

  facts_stand : AreBlocks HasFirstSlots facts [] x
  facts_stand = subst (λ (xs : List Instr). AreBlocks HasFirstSlots facts xs x) empty first

  pub book_stages_room : HasRoom (stages_pieces [] 0 (map stage_of k.stages.items)) x
  book_stages_room = stages_room facts stages last (book_room few (book_of k) can) x facts_stand

  module _ (y : List Instr) (ss again : List Stage) (ts : List ColumnType) (once : ss ≡ k.stages.items) (twice : again ≡ k.stages.items)
      (second : AreBlocks (HasSoFar (columns_of [] (map stage_of ss)) (length ss)) (stages_pieces [] 0 (map stage_of ss)) x y)
      (have : columns ss ts ≡ columns_of [] (map stage_of ss)) where
    stages_stand : AreBlocks (HasSoFar types (length k.stages.items)) stages x y
    stages_stand = subst (λ (xs : List Stage). AreBlocks (HasSoFar (columns_of [] (map stage_of xs)) (length xs)) (stages_pieces [] 0 (map stage_of xs)) x y) once second

    pub known : columns again ts ≡ columns_of [] (map stage_of k.stages.items)
    known = ap (λ (xs : List Stage). columns xs ts) (twice ∙ sym once) ∙ have ∙ ap (λ (xs : List Stage). columns_of [] (map stage_of xs)) once

    pub book_last_room : HasRoom (last_pieces (columns again ts) k.last) y
    book_last_room =
        subst (λ (cs : List Column). HasRoom (last_pieces cs k.last) y) (sym known) (last_room facts stages last (book_room few (book_of k) can) x facts_stand y stages_stand)

    pub book_base_tests : first_failing (base_tests (columns again ts) k.last.at k.last.base) ≡ None
    book_base_tests = ap (λ (cs : List Column). first_failing (base_tests cs k.last.at k.last.base)) known ∙ (passes (book_of k) can.typed).base

    abbrev Whole : CountingCode → Type 0
    Whole = HasSoFar types (length (map stage_of k.stages.items))

    all_stages : length (map stage_of k.stages.items) ≡ length k.stages.items
    all_stages = length-map k.stages.items stage_of

    pub book_stands : (z w : List Instr) (end : Instr) → AreBlocks (HasSoFar (columns again ts) 0) (last_pieces (columns again ts) k.last) y z → end ≡ halting k.last.vacate →
        w ≡ z ++ end ∷ [] → AreBookInstrs few (book_of k) w
    book_stands z w end third ends is = record {
      plans = z;
      blocks = blocks_then (blocks_in (λ (code : CountingCode) (has : Whole code). has_first types code has.slots) facts_stand)
          (blocks_then
          (blocks_in (λ (code : CountingCode) (has : Whole code). let many = has.stages in record { slots = has.slots; stages = omega (arith, many, all_stages) }) stages_stand)
          (blocks_in (λ (code : CountingCode) (has : Whole code). record { slots = has.slots; stages = omega arith })
          (subst (λ (cs : List Column). AreBlocks (HasSoFar cs 0) (last_pieces cs k.last) y z) known third)));
      is = is ∙ ap (λ (i : Instr). z ++ i ∷ []) ends;
    }

-- the parts of its code
abbrev code_by : List Instr → List CodeStage → List Shape → CountingCode
code_by instrs stages slots = record { instrs = instrs; stages = stages; slots = slots }

pub code_is : (few : List Cond) (k : Book) (instrs : List Instr) (named : List CodeStage) (low slots : List Shape) (ts : List ColumnType) (n : ℕ) → CanCompile few (book_of k) →
    named ≡ code_stages 0 (map stage_of k.stages.items) → length ts ≡ MAX_STAGES → n ≡ length k.stages.items → low ≡ low_shapes →
    columns k.stages.items ts ≡ columns_of [] (map stage_of k.stages.items) → slots ≡ low ++ map (λ t. t.shape) (take n ts) → code_by instrs named slots ≡ book_code (book_of k) instrs
code_is few k instrs named low slots ts n can named_are long count low_is have slots_by =
    let ss = k.stages.items in
    let short = few_stages (map stage_of ss) can.limits in
    let as_many : length ss ≤ length ts = omega (arith, short, length-map ss stage_of, long) in
    let slots_as = slots_are ss ts low slots as_many low_is have (slots_by ∙ ap (λ (m : ℕ). low ++ map (λ t. t.shape) (take m ts)) count) in
    ap (λ (xs : List CodeStage). code_by instrs xs slots) named_are
    ∙ ap (λ (xs : List Shape). code_by instrs (code_stages 0 (map stage_of ss)) xs) slots_as

-- a typed book and conditions that say the same
pub book_can : (k : Book) (few conditions : List Cond) → is_typed (book_of k) ≡ true → conditions ≡ k.eligible.items → SayTheSame few conditions → CanCompile few (book_of k)
book_can k few conditions typed are same = record { typed = typed; limits = k.within_limits; same = subst (SayTheSame few) are same }

-- the code is proper
pub code_proper : (few : List Cond) (k : Book) (instrs : List Instr) (c : CountingCode) (named : List CodeStage) → CanCompile few (book_of k) → AreBookInstrs few (book_of k) instrs →
    named ≡ code_stages 0 (map stage_of k.stages.items) → All IsStage named → c ≡ book_code (book_of k) instrs → IsProper c
code_proper few k instrs c named can are same words is = subst IsProper (sym is) (books_are_proper few (book_of k) instrs can are (subst (All IsStage) same words))

module _ (b : BookTree) (c : CountingCode) (typed : is_typed b ≡ true) (limits : is_within_limits b.stages ≡ true) (of : IsCodeOf b c) where
  can : CanCompile of.few b
  can = record { typed = typed; limits = limits; same = of.same }

  -- the verifier accepts it
  pub code_kinded : IsWellKinded c
  code_kinded = subst IsWellKinded (sym of.is) (books_are_kinded of.few b of.instrs can of.are)

  -- and what it comes to
  pub code_compiled : IsCompiled b c
  code_compiled = subst (IsCompiled b) (sym of.is) (books_are_compiled_by closings_achieve books_cost of.few b of.instrs can of.are)
