use Rattle.std.proofs.Common.{map, take, ◌≡◌}
use Rattle.sl_law_meaning.specs.book.Trees.{stage_of}
use Rattle.sl_book_copies.proofs.book.copy_stages.Given as goal

abbrev pub invariant-loop-stage : goal.invariant-loop-stage
invariant-loop-stage l = map stage_of l.copies.items ≡ map stage_of (take l.stage-index l.stages)
