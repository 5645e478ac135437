use Rattle.std.proofs.Common.{◌≡◌, map, take}
use Rattle.sl_explain_books.specs.Beginnings.{example_of}
use Rattle.sl_explain_books.proofs.beginning.examples_of.Given as goal

-- a token of each sort so far
abbrev pub invariant-loop-sort : goal.invariant-loop-sort
invariant-loop-sort l = l.tokens.items ≡ map example_of (take l.sort-index l.sorts)
