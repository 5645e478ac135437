-- What a column of a state holds, and what changes with it (docs/compiler.md, section 1).
use Rattle.std.specs.Prelude.{◌≡◌, ◌≢◌, ℕ, ◌<◌, List, length, slice_index}
use Rattle.sl_base_terms.specs.declared.shape.Shape.{Shape}
use Rattle.sl_law_meaning.specs.returns.Election.{Election}
use Rattle.sl_code_semantics.specs.State.{State}
use Rattle.sl_code_semantics.specs.Places.{cells_of}

-- the cells of a column are those values
pub record HoldsColumn (e : Election) (shape : Shape) (column : ℕ → ℕ) (values : List ℕ) : Type 0 where
  pub long : length values ≡ cells_of e shape
  pub at : (q : ℕ) → q < cells_of e shape → column q ≡ slice_index values q

-- no other column is changed, nothing is recorded, and nobody is placed
abbrev pub ChangesColumn : ℕ → State → State → Type 0
ChangesColumn slot before after = record {
  columns : (k q : ℕ) → k ≢ slot → after.columns k q ≡ before.columns k q;
  steps : after.steps ≡ before.steps;
  weights : after.weights ≡ before.weights;
  placed : (winner : ℕ) → after.placed winner ≡ before.placed winner;
}

-- the column holds those values after, and no other one is changed
pub record GetsColumn (e : Election) (shape : Shape) (slot : ℕ) (values : List ℕ) (before after : State) : Type 0 where
  pub holds : HoldsColumn e shape (after.columns slot) values
  pub changes : ChangesColumn slot before after
