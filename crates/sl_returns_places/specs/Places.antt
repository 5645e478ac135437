-- Where the cells of a text stand, by the machine with which the `csv` crate reads records (docs/returns.md, section 5).
use Rattle.std.specs.Prelude.{◌+◌, ◌-◌, ℕ, zero, suc, Bool, true, false, List, [], ◌∷◌, ◌++◌, length, Option, option_map, get_or, slice_get, if◌then◌else◌}
use Rattle.csv.specs.declared.parser.State.{State}
use Rattle.csv.specs.declared.parser.State.TheVariants as st
use Rattle.csv.specs.declared.parser.Action.{Action}
use Rattle.csv.specs.declared.parser.Action.TheVariants as act
use Rattle.csv.specs.Machine.{ends_at_end, field_after, is_end, step}
use Rattle.csv.specs.Reading.{default_config, strip_bom}
use Rattle.sl_returns_places.specs.declared.places.Place.{Place}

-- a cell of a text: where it begins, where it ends, what it holds, and whether a quote in it is open at the end of the text
pub record Cell : Type 0 where
  pub start : ℕ
  pub behind : ℕ
  pub holds : List ℕ
  pub is_open : Bool

abbrev pub closed : ℕ → ℕ → List ℕ → Cell
closed start at field = record { start = start; behind = at; holds = field; is_open = false }

abbrev pub is_quoted : State → Bool
is_quoted st.InQuoted = true
is_quoted st.StartRecord = false
is_quoted st.StartField = false
is_quoted st.InField = false
is_quoted st.AfterQuote = false
is_quoted st.InEscape = false
is_quoted st.InComment = false
is_quoted st.AfterCr = false

-- the cells of the record under way after an action, with the one under way where the action ends it
abbrev pub cells_after : Action → List Cell → Cell → List Cell
cells_after act.EndField cells c = cells ++ c ∷ []
cells_after act.EndRecord cells c = cells ++ c ∷ []
cells_after act.Skip cells c = cells
cells_after act.Copy cells c = cells

-- where the cell under way begins after an action at an offset: after it, where it ended a cell, or where the machine stands between records
abbrev pub start_after : Action → State → ℕ → ℕ → ℕ
start_after act.EndField s start at = at + 1
start_after act.EndRecord s start at = at + 1
start_after act.Skip s start at = if ends_at_end s then start else at + 1
start_after act.Copy s start at = start

-- the records of a text from an offset on, from a state of the machine, with the cells of the record under way, where the cell under way begins, and what it holds so far
unfoldable pub located : State → List Cell → ℕ → List ℕ → ℕ → List ℕ → List (List Cell)
located s cells start field at [] = if ends_at_end s then (cells ++ record { start = start; behind = at; holds = field; is_open = is_quoted s } ∷ []) ∷ [] else []
located s cells start field at (c ∷ rest) =
    if is_end (step default_config s c).1 then cells_after (step default_config s c).1 cells (closed start at field) ∷ located (step default_config s c).0 [] (at + 1) [] (at + 1) rest
    else located (step default_config s c).0 (cells_after (step default_config s c).1 cells (closed start at field)) (start_after (step default_config s c).1 (step default_config s c).0 start at)
    (field_after (step default_config s c).1 c field) (at + 1) rest

-- the length of a byte order mark at the start of a text
abbrev pub mark_length : List ℕ → ℕ
mark_length text = length text - length (strip_bom text)

-- the records of a text, by their cells
abbrev pub located_in : List ℕ → List (List Cell)
located_in text = located st.StartRecord [] (mark_length text) [] (mark_length text) (strip_bom text)

-- the cells of the record of a row, the first having row 1
abbrev pub row_of : List (List Cell) → ℕ → List Cell
row_of records zero = []
row_of records (suc n) = get_or records n []

abbrev pub place_of : Cell → Place
place_of c = record { start = c.start; end = c.behind; is_open = c.is_open }

-- the place of one of some cells
abbrev pub place_among : List Cell → ℕ → Option Place
place_among cells column = option_map place_of (slice_get cells column)

-- the place of the cell of a column in the record of a row
abbrev pub place_in : List ℕ → ℕ → ℕ → Option Place
place_in text row column = place_among (row_of (located_in text) row) column
