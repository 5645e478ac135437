-- The instructions of a rulebook are no more than 50,000.
use Rattle.std.proofs.Common.{◌≡◌, ℕ, ◌+◌, ◌*◌, ◌≤◌, true, List, [], ◌∷◌, length, refl, ap, arith, length-append}
use Rattle.std.specs.Prelude.{nat_le}
use Rattle.std.specs.List.{list_all}
use Rattle.std.proofs.lemmas.Bool.{and_parts, leb-true}
use Rattle.sl_law_meaning.specs.declared.limits.TheConstants.{MAX_PARTS}
use Rattle.sl_base_terms.specs.declared.limits.TheConstants.{MAX_STAGES}
use Rattle.sl_law_meaning.specs.book.Limits.{is_within_stage, is_within_limits}
use Rattle.sl_law_meaning.specs.declared.book.Cond.{Cond}
use Rattle.sl_law_meaning.specs.book.Trees.{StageTree, BookTree}
use Rattle.sl_compile_plans.specs.Trees.{Tree, size_of}
use Rattle.sl_compile_plans.specs.Laid.{size_all}
use Rattle.sl_compile_pieces.specs.closing.Trees.{halting}
use Rattle.sl_compile.specs.Codes.{book_pieces}
use Rattle.sl_compile.specs.Laws.{CanCompile, BooksAreShort}
use Rattle.sl_compile_plans.proofs.Modest.{size_at_most}
use Rattle.sl_compile_pieces.proofs.judged.SmallPlans.{judged_modest}
use Rattle.sl_compile.proofs.rulebooks.CostsOfBooks.{total, IsMeasure, fact_plans, book_at_most}
use Rattle.sl_compile.proofs.rulebooks.Rows.{blocks_longer}

-- instructions as a measure of plans
sizes_measured : IsMeasure (λ t. size_of t + 1) 351 15 41 221
sizes_measured = record {
  nodes = size_at_most 500000 0 350;
  columns = λ t h. size_at_most 19 0 14 t (judged_modest 19 0 14 t h);
  facts = size_at_most 30 30 40;
  covers = λ t h. size_at_most 70 70 220 t (judged_modest 70 70 220 t h);
  joins = λ a b. omega arith;
}

sizes_total : (ts : List Tree) → size_all ts ≡ total (λ t. size_of t + 1) ts
sizes_total [] = refl
sizes_total (t ∷ ts) = ap (λ (n : ℕ). size_of t + 1 + n) (sizes_total ts)

-- a book within the limits has no more stages than these allow
pub few_stages : (ss : List StageTree) → is_within_limits ss ≡ true → length ss ≤ MAX_STAGES
few_stages ss within = leb-true (length ss) MAX_STAGES (and_parts (nat_le (length ss) MAX_STAGES) (list_all is_within_stage ss) within).0

-- the plans of a book and its halt have room
pub books_fit : (few : List Cond) (b : BookTree) → CanCompile few b → size_all (book_pieces few b) + 1 ≤ 50000
books_fit few b can =
    let ts = book_pieces few b in
    of (size_all ts) (total (λ t. size_of t + 1) ts) (length b.stages) (few_stages b.stages can.limits) (sizes_total ts)
    (book_at_most (λ t. size_of t + 1) 351 15 41 221 sizes_measured few b can)
  where
    of : (long all stages : ℕ) → stages ≤ MAX_STAGES → long ≡ all → all ≤ stages * (351 + (MAX_PARTS + 1) * 15) + (fact_plans * 41 + (3 * 15 + 221)) → long + 1 ≤ 50000
    of long all stages few is h = omega (arith, few, is, h)

pub books_are_short : BooksAreShort
books_are_short few b instrs can are =
    let fit = books_fit few b can in
    let longer = blocks_longer are.blocks in
    omega (arith, fit, longer.short, ap length are.is, length-append are.plans (halting b.last.vacate ∷ []))
