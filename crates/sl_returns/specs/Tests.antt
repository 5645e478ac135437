-- The tests of a record after the header, against the election that the records before it give, in their order
-- (docs/returns.md, section 5). A test of a cell has its column in its fault.
use Rattle.std.specs.Prelude.{◌≡◌, ◌⊎◌, ◌+◌, ℕ, Bool, true, false, not, ◌&&◌, ◌||◌, List, [], ◌∷◌, ◌++◌, length, Option, Some, None, is_none, is_some, nat_eq, nat_le, nat_lt, codes, if◌then◌else◌}
use Rattle.std.specs.List.{list_any}
use Rattle.std.specs.Str.{bytes_eq}
use Rattle.sl_base_quotients.specs.Names.{is_name}
use Rattle.sl_base_quotients.specs.declared.limits.TheConstants.{MAX_LANDS, MAX_PARTIES}
use Rattle.sl_law_meaning.specs.declared.limits.TheConstants.{MAX_WINS, MAX_LOTS}
use Rattle.sl_law_meaning.specs.declared.election.Lot.{Lot}
use Rattle.sl_base_terms.specs.Tests.{Test, first_failing}
use Rattle.sl_law_meaning.specs.returns.Election.{Election, lands_of, parties_of, wins_of, has_list}
use Rattle.sl_returns.specs.declared.schema.TheConstants.{COLUMNS, KIND, LAND, PARTY, A, B, C}
use Rattle.sl_returns.specs.declared.schema.Kind.{Kind}
use Rattle.sl_returns.specs.declared.schema.Kind.TheVariants as kind
use Rattle.sl_returns.specs.declared.schema.Content.{Content}
use Rattle.sl_returns.specs.declared.schema.Content.TheVariants as content
use Rattle.sl_returns.specs.declared.schema.Named.{Named}
use Rattle.sl_returns.specs.declared.schema.Named.TheVariants as named
use Rattle.sl_returns.specs.declared.header.Version.{Version}
use Rattle.sl_returns.specs.declared.header.Version.TheVariants as version
use Rattle.sl_returns.specs.declared.fault.FaultKind.TheVariants as fault
use Rattle.sl_returns.specs.declared.fault.RecordFault.{RecordFault}
use Rattle.sl_returns.specs.Cells.{Record, cell, is_blank, is_number, number_of, number_in, place_in}
use Rattle.sl_returns.specs.Faults.{of_cell, of_record}
use Rattle.sl_returns.specs.Records.{lot_of}
use Rattle.sl_returns.specs.Schema.{contents, greatest, kind_named, least}

-- the tests of a record, and those of a cell by its column and what it holds
abbrev pub Tests : Type 0
Tests = List (Test RecordFault)

abbrev pub CellTests : Type 0
CellTests = ℕ → List ℕ → Tests

-- ---- tests of a cell

-- one test
unfoldable pub one_test : Bool → RecordFault → Tests
one_test b f = record { holds = b; otherwise = f } ∷ []

-- an empty cell
unfoldable pub blank_tests : CellTests
blank_tests column c = one_test (is_blank c) (of_cell fault.Fields column)

-- a name
unfoldable pub name_tests : CellTests
name_tests column name = one_test (is_name name) (of_cell fault.Name column)

-- a name that is to be new, by its number in a list of names, if it is there
unfoldable pub new_tests : Option ℕ → CellTests
new_tests found column name = name_tests column name ++ one_test (is_none found) (of_cell fault.Twice column)

-- a name that is to be known
unfoldable pub known_tests : Option ℕ → CellTests
known_tests found column name = name_tests column name ++ one_test (is_some found) (of_cell fault.Unknown column)

-- a name that is to be known, where an empty cell stands for none
unfoldable pub known_or_none_tests : Option ℕ → CellTests
known_or_none_tests found column name = if is_blank name then [] else known_tests found column name

-- the same, by the list of names
abbrev pub new_name_tests : List (List ℕ) → CellTests
new_name_tests names column name = new_tests (number_in names name) column name

abbrev pub known_name_tests : List (List ℕ) → CellTests
known_name_tests names column name = known_tests (number_in names name) column name

abbrev pub name_or_none_tests : List (List ℕ) → CellTests
name_or_none_tests names column name = known_or_none_tests (number_in names name) column name

-- a number from the least to the greatest
unfoldable pub number_tests : ℕ → ℕ → CellTests
number_tests low high column c =
    one_test (is_number c) (of_cell fault.Number column) ++ one_test (nat_le low (number_of c) && nat_le (number_of c) high) (of_cell fault.Range column)

-- the same, where the cell may be empty
unfoldable pub number_or_none_tests : ℕ → ℕ → CellTests
number_or_none_tests low high column c = if is_blank c then [] else number_tests low high column c

-- ---- tests of the cells of a record, by the schema

-- the names that an election has
abbrev pub names_of : Election → Named → List (List ℕ)
names_of e named.Land = e.land_names
names_of e named.Party = e.party_names
names_of e named.Constituency = e.win_names

-- a cell by what it holds; those that are to be empty are tested before all others
abbrev pub content_tests : Election → Content → CellTests
content_tests e content.Kind column c = []
content_tests e content.Blank column c = []
content_tests e (content.NewName n) column c = new_name_tests (names_of e n) column c
content_tests e (content.KnownName n) column c = known_name_tests (names_of e n) column c
content_tests e (content.KnownNameOrNone n) column c = name_or_none_tests (names_of e n) column c
content_tests e content.StageName column c = name_tests column c
content_tests e (content.Number q) column c = number_tests (least q) (greatest q) column c
content_tests e (content.NumberOrNone q) column c = number_or_none_tests (least q) (greatest q) column c

-- the cells of a record from a column on, from left to right
abbrev pub tests_from : Election → Record → ℕ → List Content → Tests
tests_from e r column [] = []
tests_from e r column (holds ∷ rest) = content_tests e holds column (cell r column) ++ tests_from e r (column + 1) rest

-- those after the first
abbrev pub cell_tests : Election → Kind → Record → Tests
cell_tests e k r = tests_from e r LAND (contents k)

-- whether a cell is to be empty
abbrev pub empty_tests : Content → CellTests
empty_tests content.Kind column c = []
empty_tests content.Blank column c = blank_tests column c
empty_tests (content.NewName n) column c = []
empty_tests (content.KnownName n) column c = []
empty_tests (content.KnownNameOrNone n) column c = []
empty_tests content.StageName column c = []
empty_tests (content.Number q) column c = []
empty_tests (content.NumberOrNone q) column c = []

-- the cells from a column on that are to be empty
abbrev pub blanks_from : Record → ℕ → List Content → Tests
blanks_from r column [] = []
blanks_from r column (holds ∷ rest) = empty_tests holds column (cell r column) ++ blanks_from r (column + 1) rest

abbrev pub blanks : Kind → Record → Tests
blanks k r = blanks_from r LAND (contents k)

-- ---- tests of a record of each kind

abbrev pub house_tests : Election → Record → Tests
house_tests e r = blanks kind.House r ++ (cell_tests e kind.House r ++ one_test (is_none e.house) (of_record fault.Twice))

abbrev pub land_tests : Election → Record → Tests
land_tests e r = blanks kind.Land r ++ (cell_tests e kind.Land r ++ one_test (nat_lt (lands_of e) MAX_LANDS) (of_record fault.TooMany))

abbrev pub party_tests : Election → Record → Tests
party_tests e r = blanks kind.Party r ++ (cell_tests e kind.Party r ++ one_test (nat_lt (parties_of e) MAX_PARTIES) (of_record fault.TooMany))

-- the names left on a list can be given only in the second version
abbrev pub may_tell_slate : Version → Bool
may_tell_slate version.First = false
may_tell_slate version.Second = true

abbrev pub fills_list : Version → Record → Bool
fills_list v r = may_tell_slate v || is_blank (cell r C)

abbrev pub list_tests : Version → Election → Record → Tests
list_tests v e r =
    one_test (fills_list v r) (of_cell fault.Fields C)
    ++ (cell_tests e kind.List r
    ++ (one_test (nat_le (number_of (cell r B)) (number_of (cell r A))) (of_record fault.Counted)
    ++ one_test (not (has_list e (place_in e.land_names (cell r LAND)) (place_in e.party_names (cell r PARTY)))) (of_record fault.Twice)))

abbrev pub win_tests : Election → Record → Tests
win_tests e r =
    cell_tests e kind.Win r
    ++ (one_test (nat_le (number_of (cell r B)) (number_of (cell r C))) (of_record fault.Range)
    ++ one_test (nat_lt (wins_of e) MAX_WINS) (of_record fault.TooMany))

-- a lot names a Land or a party, and a constituency exactly where its stage is `seats`
abbrev pub names_entry : Record → Bool
names_entry r = not (is_blank (cell r LAND)) || not (is_blank (cell r PARTY))

abbrev pub names_winner_of_seats : Record → Bool
names_winner_of_seats r = if bytes_eq (cell r A) (codes "seats") then not (is_blank (cell r B)) else is_blank (cell r B)

abbrev pub filled_tests : Record → Tests
filled_tests r =
    blanks kind.Lot r
    ++ (one_test (names_entry r) (of_cell fault.Fields LAND)
    ++ one_test (names_winner_of_seats r) (of_cell fault.Fields B))

-- two lots of the same stage, Land, party and constituency
abbrev pub same_number : Option ℕ → Option ℕ → Bool
same_number None None = true
same_number (Some n) (Some m) = nat_eq n m
same_number _ _ = false

abbrev pub same_lot : Lot → Lot → Bool
same_lot l m = same_number l.land m.land && same_number l.party m.party && bytes_eq l.stage m.stage && same_number l.win m.win

abbrev pub has_lot : List Lot → Lot → Bool
has_lot lots l = list_any (λ told. same_lot told l) lots

-- the tests of its cells
abbrev pub lot_cell_tests : Election → Record → Tests
lot_cell_tests e r = filled_tests r ++ cell_tests e kind.Lot r

abbrev pub lot_tests : Election → Record → Tests
lot_tests e r =
    lot_cell_tests e r
    ++ (one_test (not (has_lot e.lots (lot_of e.land_names e.party_names e.win_names r))) (of_record fault.Twice)
    ++ one_test (nat_lt (length e.lots) MAX_LOTS) (of_record fault.TooMany))

-- ---- every test of a record

abbrev pub kind_tests : Version → Option Kind → Election → Record → Tests
kind_tests v None e r = one_test false (of_cell fault.Kind KIND)
kind_tests v (Some kind.House) e r = house_tests e r
kind_tests v (Some kind.Land) e r = land_tests e r
kind_tests v (Some kind.Party) e r = party_tests e r
kind_tests v (Some kind.List) e r = list_tests v e r
kind_tests v (Some kind.Win) e r = win_tests e r
kind_tests v (Some kind.Lot) e r = lot_tests e r

abbrev pub sized_test : Record → Tests
sized_test r = one_test (nat_eq (length r) COLUMNS) (of_record fault.Fields)

abbrev pub record_tests : Version → Election → Record → Tests
record_tests v e r = sized_test r ++ kind_tests v (kind_named (cell r KIND)) e r

-- ---- what tests answer

-- every test holds
pub record Pass (ts : Tests) : Type 0 where
  pub none : first_failing ts ≡ None

-- the fault is that of the first test that fails
pub record FailBy (ts : Tests) (f : RecordFault) : Type 0 where
  pub first : first_failing ts ≡ Some f

-- the same, or, where every test holds, out of memory
abbrev pub Refuse : Tests → RecordFault → Type 0
Refuse ts f = FailBy ts f ⊎ (Pass ts × (f ≡ of_record fault.NoMemory))
