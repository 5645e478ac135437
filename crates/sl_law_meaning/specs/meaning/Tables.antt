-- Seat tables, as the definitions see them (docs/meaning.md, sections 7 and 8).
use Rattle.std.specs.Prelude.{List}
use Rattle.sl_law_meaning.specs.declared.table.ListSeats.{ListSeats}
use Rattle.sl_law_meaning.specs.declared.table.Placed.{Placed}
use Rattle.sl_law_meaning.specs.declared.table.SeatStep.{SeatStep}
use Rattle.sl_law_meaning.specs.declared.table.Weight.{Weight}

pub record SeatTable : Type 0 where
  -- the lists, in list order
  pub lists : List ListSeats
  -- the winners, in the order of their records
  pub placed : List Placed
  -- in any order
  pub steps : List SeatStep
  -- in any order
  pub weights : List Weight
