-- What stands while the seats of a scope are distributed: each entry's seats in the result's column, a record for each of them, all else as it was
-- (docs/blocks.md, section 3).
use Rattle.std.specs.Prelude.{◌≡◌, ◌≢◌, ℕ, List, ◌++◌, Some, map, flat_map, sum, slice_get, slice_index, IsPermutation}
use Rattle.std.specs.List.{range_with_len, enumerate_from}
use Rattle.sl_law_meaning.specs.declared.fault.Item.{Item}
use Rattle.sl_law_meaning.specs.declared.table.Mark.{Mark}
use Rattle.sl_law_meaning.specs.declared.table.SeatStep.{SeatStep}
use Rattle.sl_law_meaning.specs.declared.table.Weight.{Weight}
use Rattle.sl_law_meaning.specs.returns.Election.{Election}
use Rattle.sl_law_meaning.specs.meaning.Scopes.{Group, place}
use Rattle.sl_law_meaning.specs.meaning.Records.{seat_step}
use Rattle.sl_law_meaning.specs.laws.Ladders.{Ladders, IsTop}
use Rattle.sl_code_semantics.specs.State.{State}
use Rattle.sl_compile_pieces.specs.scopes.Forms.{OnScope}
use Rattle.sl_compile_pieces.specs.arenas.Arenas.{Arena}
use Rattle.sl_compile_pieces.specs.declared.registers.TheConstants as reg
use Rattle.sl_compile_pieces.specs.seats.Slots.{Slots, HasCells}

-- the records of the seats that the entries hold with t, of which those of w are recorded in the end
abbrev pub steps_upto : ℕ → Group → Ladders → (ℕ → ℕ → Mark) → List ℕ → List ℕ → List SeatStep
steps_upto stage g l won w t =
    flat_map (λ x. map (seat_step stage g.scope g.entries l won w x.0 x.1) (range_with_len 0 (slice_index t x.0))) (enumerate_from 0 g.entries)

-- these records were added, in whatever order; and they are those of the seats that the entries hold, whatever is chosen in the end
pub record HasSteps (x : Slots) (g : Group) (a : Arena) (seats : ℕ) (before : List SeatStep) (t : List ℕ) (now : List SeatStep) : Type 0 where
  pub added : List SeatStep
  pub steps : now ≡ before ++ added
  pub are : (w : List ℕ) → IsTop a.ladders seats w → IsPermutation added (steps_upto x.stage g a.ladders a.won w t)

-- from the state before on, the entries of the scope have got t, out of so many seats, and these weights were recorded
abbrev pub IsSeated : Election → Slots → Group → Arena → List ℕ → ℕ → List Weight → State → List ℕ → State → Type 0
IsSeated e x g a v seats told before t s = record {
  on : OnScope g.scope s;
  amount : s.registers reg.AMOUNT ≡ seats;
  total : s.registers reg.TOTAL ≡ sum v;
  cells : HasCells e g.entries (s.columns x.result) t;
  elsewhere : (q : ℕ) → ((j : ℕ) (i : Item) → slice_get g.entries j ≡ Some i → place e i ≢ q) → s.columns x.result q ≡ before.columns x.result q;
  columns : (slot q : ℕ) → slot ≢ x.result → s.columns slot q ≡ before.columns slot q;
  steps : HasSteps x g a seats before.steps t s.steps;
  weights : s.weights ≡ before.weights ++ told;
  placed : (winner : ℕ) → s.placed winner ≡ before.placed winner;
}
