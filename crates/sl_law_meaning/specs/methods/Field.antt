-- The field of a scope (docs/methods.md, section 2). A scope is given by lists that have one number for each of its entries, in
-- entry order: the weights v, the minima m, the seats s. A list reads 0 past its end.
use Rattle.std.specs.Prelude.{ℕ, ◌<◌, List, length, slice_index, replicate}

-- the field: the entries of positive weight. V, the sum of its weights, is `sum v`
abbrev pub InField : List ℕ → ℕ → Type 0
InField v i = 0 < slice_index v i

-- no entry is in the field
abbrev pub IsEmptyField : List ℕ → Type 0
IsEmptyField v = (i : ℕ) → ¬ InField v i

-- a minimum of 0 for each entry
abbrev pub no_minima : List ℕ → List ℕ
no_minima v = replicate (length v) 0
