-- What a run answers: the memory that a state stands for when the run is done (docs/machine.md, section 1).
use Rattle.std.specs.Prelude.{ℕ, List, length, map, replicate, Option, Some, None, slice_index_or}
use Rattle.std.specs.List.{range_with_len}
use Rattle.sl_base_terms.specs.declared.shape.Shape.TheVariants as shape
use Rattle.sl_law_meaning.specs.declared.table.Placed.{Placed}
use Rattle.sl_law_meaning.specs.declared.table.SeatStep.{SeatStep}
use Rattle.sl_law_meaning.specs.declared.table.Weight.{Weight}
use Rattle.sl_law_meaning.specs.returns.Election.{Election, wins_of}
use Rattle.sl_code_instructions.specs.Codes.{CountingCode}
use Rattle.sl_code_semantics.specs.State.{State}
use Rattle.sl_code_semantics.specs.Places.{cells_of}

-- the columns of the slots; the seats of the lists, and the vacant ones; where each winner sits; what was recorded
pub record Held : Type 0 where
  pub columns : List (List ℕ)
  pub base : List ℕ
  pub vacant : List ℕ
  pub placed : List Placed
  pub steps : List SeatStep
  pub weights : List Weight

-- the cells of a slot's column, in order
abbrev pub column_of : CountingCode → Election → State → ℕ → List ℕ
column_of c e s slot = map (s.columns slot) (range_with_len 0 (cells_of e (slice_index_or c.slots slot shape.One)))

-- the vacant seats of the lists: those in the slot, or none on each list where no slot is named
abbrev pub vacant_of : CountingCode → Election → State → ℕ → Option ℕ → List ℕ
vacant_of c e s base None = replicate (length (column_of c e s base)) 0
vacant_of c e s base (Some slot) = column_of c e s slot

-- what is held in a state that halts with the seats in a slot, and with the vacant ones in a slot if one is named
abbrev pub held_of : CountingCode → Election → ℕ → Option ℕ → State → Held
held_of c e base vacant s = record {
  columns = map (column_of c e s) (range_with_len 0 (length c.slots));
  base = column_of c e s base;
  vacant = vacant_of c e s base vacant;
  placed = map s.placed (range_with_len 0 (wins_of e));
  steps = s.steps;
  weights = s.weights;
}
