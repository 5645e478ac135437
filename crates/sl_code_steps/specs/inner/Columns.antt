-- How a value of `Column` keeps its numbers.
use Rattle.std.specs.Prelude.{◌≡◌, ◌<◌, ◌≤◌, ◌+◌, ◌*◌, ℕ, List, [], ◌∷◌, length, replicate}
use Rattle.sl_code_steps.specs.declared.column.Column.TheInside.{Inside}
use Rattle.sl_code_steps.specs.declared.column.TheConstants.{MOST_CELLS}
use Rattle.sl_code_steps.specs.declared.columns.ListAt.{ListAt}

-- so many zeros, where there are no cells
abbrev pub zeros_or : ℕ → List ℕ → List ℕ
zeros_or n [] = replicate n 0
zeros_or n (x ∷ xs) = x ∷ xs

-- there are none, or one for each number
abbrev pub AreWhole : ℕ → List ℕ → Type 0
AreWhole n [] = Unit {0}
AreWhole n (x ∷ xs) = length (x ∷ xs) ≡ n

abbrev pub numbers_in : Inside → List ℕ
numbers_in c = zeros_or c.length c.cells.items

pub record FitsColumn (c : Inside) : Type 0 where
  pub whole : AreWhole c.length c.cells.items
  pub few : c.length ≤ MOST_CELLS

-- if there are parties, it is the list of a place of a column of lists
abbrev pub IsListAt : ℕ → ℕ → ListAt → Type 0
IsListAt parties place list = 0 < parties → (list.land * parties + list.party ≡ place) × (list.party < parties)
