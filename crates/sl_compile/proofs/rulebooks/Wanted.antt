-- What the proofs of compiled books take from the proofs of their costs.
use Rattle.std.proofs.Common.{◌+◌, ◌≤◌, List, length}
use Rattle.sl_law_meaning.specs.declared.book.Cond.{Cond}
use Rattle.sl_law_meaning.specs.book.Trees.{BookTree}
use Rattle.sl_law_meaning.specs.returns.Election.{Election}
use Rattle.sl_code_semantics.specs.Runs.{budget_of}
use Rattle.sl_compile_plans.specs.Laid.{cost_all}
use Rattle.sl_compile.specs.Codes.{book_pieces}
use Rattle.sl_compile.specs.Laws.{CanCompile}

-- the plans of a book and its halt take no more steps than the book's budget
abbrev pub BooksCost : Type 0
BooksCost = (few : List Cond) (b : BookTree) (e : Election) → CanCompile few b → cost_all e (book_pieces few b) + 1 ≤ budget_of (length b.stages) e
