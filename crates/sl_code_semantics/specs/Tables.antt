-- The seat table that stands in what a run answers (docs/machine.md, section 1).
use Rattle.std.specs.Prelude.{ℕ}
use Rattle.sl_law_meaning.specs.declared.table.ListSeats.{ListSeats}
use Rattle.sl_law_meaning.specs.returns.Election.{Election}
use Rattle.sl_law_meaning.specs.returns.Facts.{each_list, list_cell}
use Rattle.sl_law_meaning.specs.meaning.Seating.{placed_on}
use Rattle.sl_law_meaning.specs.meaning.Tables.{SeatTable}
use Rattle.sl_code_semantics.specs.Memories.{Held}

-- a list has the seats and the vacant seats of its cells, and the winners who are placed on it
abbrev pub held_line : Election → Held → ℕ → ℕ → ListSeats
held_line e h land party = record {
  land = land;
  party = party;
  seats = list_cell e h.base land party;
  direct = placed_on e h.placed land party;
  vacant = list_cell e h.vacant land party;
}

abbrev pub held_table : Election → Held → SeatTable
held_table e h = record { lists = each_list e (held_line e h); placed = h.placed; steps = h.steps; weights = h.weights }
