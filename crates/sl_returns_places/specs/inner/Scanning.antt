-- A scan of a text for the place of a cell: the machine's states as it has them, and what it stands for between two bytes.
use Rattle.std.specs.Prelude.{◌≡◌, ◌+◌, ◌-◌, ◌^◌, ◌≤◌, ℕ, Bool, false, List, [], Option, Some, None, drop, get_or, length, min, nat_eq, if◌then◌else◌}
use Rattle.csv.specs.declared.parser.State as machine
use Rattle.csv.specs.declared.parser.State.TheVariants as st
use Rattle.csv.specs.declared.parser.Action as effect
use Rattle.csv.specs.declared.parser.Action.TheVariants as act
use Rattle.sl_returns_places.specs.declared.places.State.{State}
use Rattle.sl_returns_places.specs.declared.places.State.TheVariants as state
use Rattle.sl_returns_places.specs.declared.places.Action.{Action}
use Rattle.sl_returns_places.specs.declared.places.Action.TheVariants as action
use Rattle.sl_returns_places.specs.declared.places.Place.{Place}
use Rattle.sl_returns_places.specs.declared.places.Scan.{Scan}
use Rattle.sl_returns_places.specs.declared.places.Turn.{Turn}
use Rattle.sl_returns_places.specs.declared.places.Turn.TheVariants as turn
use Rattle.sl_returns_places.specs.Places.{Cell, located, place_among, place_in}

abbrev pub machine_state : State → machine.State
machine_state state.StartRecord = st.StartRecord
machine_state state.StartField = st.StartField
machine_state state.InField = st.InField
machine_state state.InQuoted = st.InQuoted
machine_state state.AfterQuote = st.AfterQuote
machine_state state.AfterCr = st.AfterCr

abbrev pub machine_action : Action → effect.Action
machine_action action.Skip = act.Skip
machine_action action.Copy = act.Copy
machine_action action.EndField = act.EndField
machine_action action.EndRecord = act.EndRecord

-- the record that begins at an offset, before which so many come
abbrev pub record_begun : State → ℕ → ℕ → Scan
record_begun s records start = record { state = s; records = records; cells = 0; start = start; found = None }

-- the place that is found when the cell under way ends
abbrev pub found_with : Scan → ℕ → ℕ → Bool → Option Place
found_with s column at is_open = if nat_eq s.cells column then Some (record { start = s.start; end = at; is_open = is_open }) else s.found

-- the same record, where the byte at an offset ends a cell
abbrev pub with_cell : Scan → State → ℕ → ℕ → Scan
with_cell s next column at = record { state = next; records = s.records; cells = min (s.cells + 1) (2 ^ 64 - 1); start = at + 1; found = found_with s column at false }

-- the cells of the record under way, and what the cell under way holds so far; what the rest of the text gives is what is looked for
pub record IsScanning (text : List ℕ) (row column : ℕ) (s : Scan) (at : ℕ) : Type 0 where
  pub cells : List Cell
  pub field : List ℕ
  pub rest : place_in text row column ≡ place_among (get_or (located (machine_state s.state) cells s.start field at (drop at text)) s.records []) column
  pub number : s.cells ≡ length cells
  pub found : s.found ≡ place_among cells column
  pub few : length cells ≤ at

abbrev pub Turns : List ℕ → ℕ → ℕ → ℕ → Turn → Type 0
Turns text row column at (turn.On s) = IsScanning text row column s (at + 1)
Turns text row column at (turn.Done found) = found ≡ place_in text row column
