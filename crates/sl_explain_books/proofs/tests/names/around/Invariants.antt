-- The last stage so far that begins no later.
use Rattle.std.proofs.Common.{◌≡◌, None, drop, map, option_map}
use Rattle.sl_law_meaning.specs.book.Trees.{stage_of}
use Rattle.sl_explain_books.specs.Further.{stage_at}
use Rattle.sl_explain_books.proofs.tests.names.around.Given as goal

abbrev pub invariant-loop-stage : goal.invariant-loop-stage
invariant-loop-stage l = stage_at l.at (option_map (λ s. s.now.at) l.found) (map stage_of (drop l.stage-index l.stages)) ≡ stage_at l.at None (map stage_of l.stages)
