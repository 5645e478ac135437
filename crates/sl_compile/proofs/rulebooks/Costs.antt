-- The plans of a rulebook take no more steps than its budget has.
use Rattle.std.proofs.Common.{◌≡◌, ℕ, ◌+◌, ◌*◌, ◌≤◌, List, [], ◌∷◌, length, refl, ap, arith}
use Rattle.sl_base_quotients.specs.declared.limits.TheConstants.{MAX_SEATS}
use Rattle.sl_law_meaning.specs.declared.book.Cond.{Cond}
use Rattle.sl_law_meaning.specs.declared.limits.TheConstants.{MAX_PARTS}
use Rattle.sl_law_meaning.specs.book.Trees.{BookTree}
use Rattle.sl_law_meaning.specs.returns.Election.{Election, lands_of, parties_of, wins_of}
use Rattle.sl_code_semantics.specs.declared.budget.TheConstants.{STEPS_EACH}
use Rattle.sl_code_semantics.specs.Runs.{budget_of}
use Rattle.sl_compile_plans.specs.Trees.{Tree}
use Rattle.sl_compile_plans.specs.Meaning.{cost}
use Rattle.sl_compile_plans.specs.Laid.{cost_all}
use Rattle.sl_compile.specs.Codes.{book_pieces}
use Rattle.sl_compile.specs.Laws.{CanCompile}
use Rattle.sl_compile_plans.proofs.Modest.{steps, with_one}
use Rattle.sl_compile_pieces.proofs.judged.SmallPlans.{judged_modest}
use Rattle.sl_compile.proofs.rulebooks.CostsOfBooks.{total, IsMeasure, fact_plans, book_at_most}

module _ (e : Election) where
  -- steps as a measure of plans
  costs_measured : IsMeasure (λ t. cost e t + 1) (steps e 500001 0) (steps e 20 0) (steps e 31 30) (steps e 71 70)
  costs_measured = record {
    nodes = with_one e 500000 0 350;
    columns = λ t h. with_one e 19 0 14 t (judged_modest 19 0 14 t h);
    facts = with_one e 30 30 40;
    covers = λ t h. with_one e 70 70 220 t (judged_modest 70 70 220 t h);
    joins = λ a b. omega arith;
  }

  costs_total : (ts : List Tree) → cost_all e ts ≡ total (λ t. cost e t + 1) ts
  costs_total [] = refl
  costs_total (t ∷ ts) = ap (λ (n : ℕ). cost e t + 1 + n) (costs_total ts)

  -- with the step that halts
  book_costs : (few : List Cond) (b : BookTree) → CanCompile few b → cost_all e (book_pieces few b) + 1 ≤ budget_of (length b.stages) e
  book_costs few b can =
      rw (costs_total (book_pieces few b))
      (of (parties_of e) (lands_of e) (wins_of e) (length b.stages) (total (λ t. cost e t + 1) (book_pieces few b))
      (book_at_most (λ t. cost e t + 1) (steps e 500001 0) (steps e 20 0) (steps e 31 30) (steps e 71 70) costs_measured few b can))
    where
      -- with so many for each winner in all: q is the number of pairs
      in_pairs : (q w n c : ℕ) → 1 ≤ q
          → c ≤ n * (q * (500001 + 0 * w) + (MAX_PARTS + 1) * (q * (20 + 0 * w))) + (fact_plans * (q * (31 + 30 * w)) + (3 * (q * (20 + 0 * w)) + q * (71 + 70 * w)))
          → c + 1 ≤ (n + 2) * (STEPS_EACH * q * (MAX_SEATS + w + 2))
      in_pairs q w n c some h = omega (arith, h, some)

      same_share : (p l w : ℕ) → STEPS_EACH * ((p + 1) * (l + 1)) * (MAX_SEATS + w + 2) ≡ STEPS_EACH * (p + 1) * (l + 1) * (MAX_SEATS + w + 2)
      same_share p l w = omega arith

      of : (p l w n c : ℕ)
          → c ≤ n * ((p + 1) * (l + 1) * (500001 + 0 * w) + (MAX_PARTS + 1) * ((p + 1) * (l + 1) * (20 + 0 * w)))
          + (fact_plans * ((p + 1) * (l + 1) * (31 + 30 * w)) + (3 * ((p + 1) * (l + 1) * (20 + 0 * w)) + (p + 1) * (l + 1) * (71 + 70 * w)))
          → c + 1 ≤ (n + 2) * (STEPS_EACH * (p + 1) * (l + 1) * (MAX_SEATS + w + 2))
      of p l w n c h =
          let some : 1 ≤ (p + 1) * (l + 1) = omega arith in
          rw (← same_share p l w) (in_pairs ((p + 1) * (l + 1)) w n c some h)

-- on any returns the plans of a book, and the step that halts, take no more than the book's budget
pub books_cost : (few : List Cond) (b : BookTree) (e : Election) → CanCompile few b → cost_all e (book_pieces few b) + 1 ≤ budget_of (length b.stages) e
books_cost few b e can = book_costs e few b can
