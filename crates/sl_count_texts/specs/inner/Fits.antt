-- Which tables fit which returns (docs/output.md, section 1).
use Rattle.std.specs.Prelude.{◌≡◌, ◌<◌, All, length}
use Rattle.sl_law_meaning.specs.declared.table.ListSeats.{ListSeats}
use Rattle.sl_law_meaning.specs.returns.Election.{Election, lands_of, parties_of}
use Rattle.sl_law_meaning.specs.meaning.Tables.{SeatTable}

-- a list is of a Land and of a party of the election
abbrev pub IsOf : Election → ListSeats → Type 0
IsOf e l = (l.land < lands_of e) × (l.party < parties_of e)

-- the lists, in any order, are of the election's Länder and parties, and each winner has a place
pub record Fits (t : SeatTable) (e : Election) : Type 0 where
  pub lists : All (IsOf e) t.lists
  pub placed : length t.placed ≡ length e.wins
