-- The types before this place are those of the stages' columns.
use Rattle.std.proofs.Common.{◌≡◌, [], map, take, drop}
use Rattle.sl_law_meaning.specs.book.Trees.{stage_of}
use Rattle.sl_law_meaning.specs.book.Typing.{columns_of}
use Rattle.sl_check.specs.inner.Known.{columns}
use Rattle.sl_check.proofs.shapes.types_of.Given as goal

abbrev pub invariant-loop-i : goal.invariant-loop-i
invariant-loop-i l = columns_of [] (map stage_of l.stages) ≡ columns_of (columns (take l.i l.stages) l.types) (map stage_of (drop l.i l.stages))
