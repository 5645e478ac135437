-- What is told of the entries of a scope by their places and by their numbers.
use Rattle.std.specs.Prelude.{◌≡◌, ℕ, ◌+◌, ◌<◌, true, List, [], Option, None, All, length, nat_eq, option_and_then, option_map, position, slice_index, slice_index_or, if◌then◌else◌}
use Rattle.sl_base_terms.specs.declared.shape.Shape.{Shape}
use Rattle.sl_law_meaning.specs.declared.fault.Item.{Item}
use Rattle.sl_law_meaning.specs.declared.fault.Scope.{Scope}
use Rattle.sl_law_meaning.specs.declared.table.SeatStep.{SeatStep}
use Rattle.sl_law_meaning.specs.meaning.Scopes.{place, same_item}
use Rattle.sl_law_meaning.specs.returns.Election.{Election}
use Rattle.sl_report_results.specs.Lots.{lot_place}
use Rattle.sl_report_results.specs.Places.{seats_of}
use Rattle.sl_report_results.specs.Scopes.{entry_of}
use Rattle.sl_report_results.specs.declared.columns.Distribution.{Distribution}
use Rattle.sl_report_results.specs.declared.scopes.Entry.{Entry}
use Rattle.sl_report_results.specs.inner.Within.{is_of, own_place, place_in}

-- the place in a column of the entry for which a step won a seat of a stage
abbrev pub seat_place : Election → Shape → ℕ → SeatStep → Option ℕ
seat_place e votes stage step = if nat_eq step.stage stage then own_place e votes step.entry else None

-- the seats that a stage gave, by the place of an entry in a column
abbrev pub AreWon : Election → Shape → ℕ → List SeatStep → List ℕ → Type 0
AreWon e votes stage steps cells = (i : Item) → is_of e votes i ≡ true → slice_index cells (place e i) ≡ seats_of stage steps i

-- for each number below an end the place where it stands first in a list
abbrev pub AreFirst : List ℕ → ℕ → List (Option ℕ) → Type 0
AreFirst ns end places = (n : ℕ) → n < end → slice_index_or places n None ≡ position (nat_eq n) ns

-- the number of an entry of a scope, by its place
abbrev pub number_among : Election → Shape → Scope → List (Option ℕ) → Item → Option ℕ
number_among e votes s numbers i = option_and_then (λ n. slice_index_or numbers n None) (place_in e votes s i)

-- that is the number among these entries
abbrev pub AreNumbers : Election → Shape → Scope → List Item → List (Option ℕ) → Type 0
AreNumbers e votes s items numbers = (i : Item) → number_among e votes s numbers i ≡ position (same_item i) items

-- for the number of each entry of a scope, of which there are so many, its place in a lot, from 1
abbrev pub ArePlaces : (lot : List ℕ) → ℕ → List (Option ℕ) → Type 0
ArePlaces lot count places = (n : ℕ) → n < count → slice_index_or places n None ≡ option_map (λ k. k + 1) (position (nat_eq n) lot)

-- an entry without a quotient, by seats at the places of a column, and by its place in a lot
abbrev pub entry_by : Election → Distribution → List ℕ → Option ℕ → Item → Entry
entry_by e d cells drawn i = record (entry_of e 0 d [] [] [] i) { seats = slice_index cells (place e i); place = drawn }

-- the seats of each entry of a scope, by its place in a column; and its place in a lot, by its number
pub record AreTold (e : Election) (stage : ℕ) (steps : List SeatStep) (lot : List ℕ) (cells : List ℕ) (places : List (Option ℕ)) (items : List Item) : Type 0 where
  pub seats : All (λ i. slice_index cells (place e i) ≡ seats_of stage steps i) items
  pub drawn : (k : ℕ) (d : Item) → k < length items → slice_index_or places k None ≡ lot_place lot items (slice_index_or items k d)
