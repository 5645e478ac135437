-- What a store leaves, with its seats in a slot and its vacant seats.
use Rattle.std.specs.Prelude.{◌<◌, ℕ, List, [], length, slice_index_or}
use Rattle.sl_code_steps.specs.declared.memory.Vacant.{Vacant}
use Rattle.sl_code_steps.specs.declared.memory.Vacant.TheVariants as vacant
use Rattle.sl_code_steps.specs.declared.store.Store.{Store}
use Rattle.sl_code_semantics.specs.Memories.{Held}
use Rattle.sl_code_steps.specs.inner.Stores.{columns_of}

abbrev pub vacancy : Store → Vacant → List ℕ
vacancy s (vacant.Column slot) = slice_index_or (columns_of s) slot []
vacancy s (vacant.Nowhere zeros) = zeros

abbrev pub HasVacancy : Store → Vacant → Type 0
HasVacancy s (vacant.Column slot) = slot < length (columns_of s)
HasVacancy s (vacant.Nowhere zeros) = Unit {0}

abbrev pub held_with : Store → ℕ → Vacant → Held
held_with s base vacant = record {
  columns = columns_of s;
  base = slice_index_or (columns_of s) base [];
  vacant = vacancy s vacant;
  placed = s.placed.items;
  steps = s.steps.items;
  weights = s.weights.items;
}
