-- How a value of `Memory` keeps what it holds.
use Rattle.std.specs.Prelude.{◌<◌, ℕ, List, [], length, slice_index_or}
use Rattle.sl_code_steps.specs.declared.memory.Memory.TheInside.{Inside}
use Rattle.sl_code_steps.specs.declared.memory.Vacant.{Vacant}
use Rattle.sl_code_steps.specs.declared.memory.Vacant.TheVariants as vacant
use Rattle.sl_code_semantics.specs.Memories.{Held}

abbrev pub columns_in : Inside → List (List ℕ)
columns_in m = m.columns.items

abbrev pub vacant_in : Inside → Vacant → List ℕ
vacant_in m (vacant.Column slot) = slice_index_or (columns_in m) slot []
vacant_in m (vacant.Nowhere zeros) = zeros

abbrev pub held_in : Inside → Held
held_in m = record {
  columns = columns_in m;
  base = slice_index_or (columns_in m) m.base [];
  vacant = vacant_in m m.vacant;
  placed = m.placed.items;
  steps = m.steps.items;
  weights = m.weights.items;
}

-- the slot of the vacant seats is there
abbrev pub HasVacant : Inside → Vacant → Type 0
HasVacant m (vacant.Column slot) = slot < length m.columns.items
HasVacant m (vacant.Nowhere zeros) = Unit {0}

-- the slots of the seats and of the vacant ones are there
pub record HasColumns (m : Inside) : Type 0 where
  pub base : m.base < length m.columns.items
  pub vacant : HasVacant m m.vacant
