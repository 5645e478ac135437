-- The column is not among those after it: it is the first of the rest.
use Rattle.std.proofs.Common.{◌≡◌, find, drop}
use Rattle.sl_law_meaning.specs.book.Typing.{is_named}
use Rattle.sl_check.specs.inner.Known.{columns}
use Rattle.sl_check.proofs.columns.Columns.find.Given as goal

abbrev pub invariant-loop-i : goal.invariant-loop-i
invariant-loop-i l =
    find (is_named l.name) (columns l.self.stages.now l.self.types.now)
    ≡ find (is_named l.name) (columns (drop l.i l.self.stages.now) (drop l.i l.self.types.now))
