-- The cells of a record, and what they may hold (docs/returns.md, section 1).
use Rattle.std.specs.Prelude.{ℕ, Bool, not, List, [], ◌&&◌, length, Option, Some, None, nat_eq, nat_le, slice_index_or, if◌then◌else◌}
use Rattle.std.specs.List.{list_all, position, position_or_len}
use Rattle.std.specs.Char.{is_ascii_digit}
use Rattle.std.specs.Str.{bytes_eq}
use Rattle.std.specs.Str.Parse.{digits_value}
use Rattle.sl_returns.specs.declared.cells.TheConstants.{MAX_DIGITS}

-- a record, as its fields
abbrev pub Record : Type 0
Record = List (List ℕ)

-- the cell of a column
abbrev pub cell : Record → ℕ → List ℕ
cell r column = slice_index_or r column []

abbrev pub is_blank : List ℕ → Bool
is_blank c = nat_eq (length c) 0

-- one to twelve digits
abbrev pub is_number : List ℕ → Bool
is_number c = not (is_blank c) && nat_le (length c) MAX_DIGITS && list_all is_ascii_digit c

-- the number that digits spell
abbrev pub number_of : List ℕ → ℕ
number_of c = digits_value 10 c

-- the number of a name in a list of names, from 0, if it is there
abbrev pub number_in : List (List ℕ) → List ℕ → Option ℕ
number_in names name = position (bytes_eq name) names

-- its place there
abbrev pub place_in : List (List ℕ) → List ℕ → ℕ
place_in names name = position_or_len (bytes_eq name) names

-- the same, where an empty cell stands for none
abbrev pub place_or_none : List (List ℕ) → List ℕ → Option ℕ
place_or_none names name = if is_blank name then None else Some (place_in names name)

-- a number, where an empty cell stands for none
abbrev pub number_or_none : List ℕ → Option ℕ
number_or_none c = if is_blank c then None else Some (number_of c)
