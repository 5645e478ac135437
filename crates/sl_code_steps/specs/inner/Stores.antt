-- How the machine's store stands for a state.
use Rattle.std.specs.Prelude.{◌≡◌, ℕ, List, [], length, map, slice_index, slice_index_or}
use Rattle.sl_law_meaning.specs.declared.table.Placed.TheVariants as placed
use Rattle.sl_law_meaning.specs.returns.Election.{Election, parties_of, wins_of}
use Rattle.sl_code_instructions.specs.Codes.{CountingCode}
use Rattle.sl_code_steps.specs.declared.step.End.{End as Answer}
use Rattle.sl_code_steps.specs.declared.step.End.TheVariants as end
use Rattle.sl_code_steps.specs.declared.step.Effect.{Effect as Move}
use Rattle.sl_code_steps.specs.declared.step.Effect.TheVariants as move
use Rattle.sl_code_steps.specs.declared.store.Store.{Store}
use Rattle.sl_code_semantics.specs.State.{State, End, Halted, Faulted}
use Rattle.sl_code_semantics.specs.Places.{cells_of}
use Rattle.sl_code_semantics.specs.Effects.{Effect, Goes, Jumps}
use Rattle.sl_code_steps.specs.inner.Lots.{StageLots, lots_for}

-- the columns, each as the list of its numbers
abbrev pub columns_of : Store → List (List ℕ)
columns_of s = s.columns.items

-- the state that a store stands for: what is recorded of no register, no cell and no winner is 0, and unseated
abbrev pub state_of : Store → State
state_of s = record {
  registers = λ r. slice_index s.registers r;
  columns = λ k place. slice_index (slice_index_or (columns_of s) k []) place;
  party = s.cursors.cells.party;
  land = s.cursors.cells.land;
  win = s.cursors.win;
  table = s.table.on;
  mark = s.mark;
  steps = s.steps.items;
  weights = s.weights.items;
  placed = λ w. slice_index_or s.placed.items w placed.Unseated;
}

-- what no step changes: how many cells each column has, how many parties and winners there are, and the lots
pub record Sizes : Type 0 where
  pub columns : List ℕ
  pub parties : ℕ
  pub winners : ℕ
  pub lots : List StageLots

abbrev pub sizes_of : Store → Sizes
sizes_of s = record { columns = map length (columns_of s); parties = s.cursors.cells.parties; winners = length s.placed.items; lots = s.table.lots }

-- those that a code and returns ask for
abbrev pub sizes_for : CountingCode → Election → Sizes
sizes_for c e = record { columns = map (cells_of e) c.slots; parties = parties_of e; winners = wins_of e; lots = lots_for c e }

-- the end that a body answers, and the effect, with the state that it leaves
abbrev pub end_with : Answer → State → End
end_with (end.Halted base vacant) s = Halted base vacant s
end_with (end.Faulted fault) s = Faulted fault

abbrev pub effect_of : Move → State → Effect
effect_of move.Goes s = Goes s
effect_of (move.Jumps target) s = Jumps s

-- an effect that jumps, if it is one, jumps to that place
abbrev pub IsTo : ℕ → Move → Type 0
IsTo place move.Goes = Unit {0}
IsTo place (move.Jumps target) = target ≡ place
