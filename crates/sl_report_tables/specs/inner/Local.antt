-- The lines of a table in one Land.
use Rattle.std.specs.Prelude.{ℕ, List, [], Option, None, Some, filter, nat_eq}
use Rattle.sl_law_meaning.specs.declared.count.Counted.{Counted}
use Rattle.sl_law_meaning.specs.declared.table.ListSeats.{ListSeats}

-- the lines of a Land by a count, if there is one
abbrev pub lines_in : ℕ → Option Counted → List ListSeats
lines_in land None = []
lines_in land (Some c) = filter (λ l. nat_eq l.land land) c.table.lists
