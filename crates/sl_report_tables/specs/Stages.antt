-- The tables of all stages (docs/report.md).
use Rattle.std.specs.List.{enumerate_from}
use Rattle.std.specs.Prelude.{◌≡◌, ℕ, ◌+◌, List, [], ◌∷◌, codes, map, option_map, slice_get, slice_index, sum, unwrap_or}
use Rattle.sl_base_terms.specs.declared.shape.Shape.TheVariants as shape
use Rattle.sl_base_terms.specs.declared.shape.Shape.{Shape}
use Rattle.sl_report_forms.specs.Cells.{Content, a_number, a_stage, a_word, an_entry}
use Rattle.sl_report_forms.specs.Tables.{Table}
use Rattle.sl_report_parties.specs.Sums.{capped}
use Rattle.sl_report_tables.specs.Columns.{listed}
use Rattle.sl_report_tables.specs.Parts.{full_name}
use Rattle.sl_law_meaning.specs.declared.book.ColumnType.{ColumnType}
use Rattle.sl_law_meaning.specs.declared.book.Unit.TheVariants as unit
use Rattle.sl_law_meaning.specs.declared.book.Unit.{Unit}
use Rattle.sl_law_meaning.specs.declared.count.Column.{Column}
use Rattle.sl_law_meaning.specs.declared.fault.Item.{Item}
use Rattle.sl_law_meaning.specs.meaning.Scopes.{entries_of, place}
use Rattle.sl_law_meaning.specs.returns.Election.{Election}
use Rattle.sl_report_tables.specs.declared.stages.TheConstants as stages_columns

-- ---- the stages

-- what the column of a stage has a number for
abbrev pub shape_cell : Shape → Content
shape_cell shape.One = a_word (codes "one") (codes "eine Zahl")
shape_cell shape.Party = a_word (codes "party") (codes "Partei")
shape_cell shape.Land = a_word (codes "land") (codes "Land")
shape_cell shape.List = a_word (codes "list") (codes "Liste")

abbrev pub unit_cell : Unit → Content
unit_cell unit.Seats = a_word (codes "seats") (codes "Sitze")
unit_cell unit.Votes = a_word (codes "votes") (codes "Stimmen")

-- the number of the stage from 1, its name, shape and unit, and the sum of its column
abbrev pub stage_row : Unit → ℕ × Column → List Content
stage_row unit x = a_number (capped (x.0 + 1)) ∷ a_stage x.0 ∷ shape_cell x.1.shape ∷ unit_cell unit ∷ a_number (capped (sum x.1.cells.items)) ∷ []

-- the unit of the column of that number
abbrev pub unit_at : List ColumnType → ℕ → Unit
unit_at types number = unwrap_or (option_map (λ t. t.unit) (slice_get types number)) unit.Seats

abbrev pub stage_row_by : List ColumnType → ℕ × Column → List Content
stage_row_by types x = stage_row (unit_at types x.0) x

-- with the types that the stages of a book have
abbrev pub stages_table : List ColumnType → List Column → Table
stages_table types columns = record {
  key = codes "stages";
  columns = listed stages_columns.STAGES;
  rows = map (stage_row_by types) (enumerate_from 0 columns);
}

-- of units no more is said than that each is one
abbrev pub IsStagesTable : List Column → Table → Type 0
IsStagesTable columns t = (types : List ColumnType) × (t ≡ stages_table types columns)

-- ---- the column of a stage

-- one number for all
abbrev pub one_row : (stage : ℕ) → Column → List Content
one_row stage c = a_stage stage ∷ a_word (codes "all") (codes "alle") ∷ a_word (codes "all") (codes "alle") ∷ a_number (capped (sum c.cells.items)) ∷ []

-- an entry, with its number in the column
abbrev pub cell_row : Election → (stage : ℕ) → Column → Item → List Content
cell_row e stage c i = a_stage stage ∷ an_entry i ∷ full_name i ∷ a_number (slice_index c.cells.items (place e i)) ∷ []

-- one number for all, or one for each entry of the shape
abbrev pub cell_rows : Election → (stage : ℕ) → Shape → Column → List (List Content)
cell_rows e stage shape.One c = one_row stage c ∷ []
cell_rows e stage shape.Party c = map (cell_row e stage c) (entries_of e shape.Party)
cell_rows e stage shape.Land c = map (cell_row e stage c) (entries_of e shape.Land)
cell_rows e stage shape.List c = map (cell_row e stage c) (entries_of e shape.List)

abbrev pub cells_table : Election → ℕ × Column → Table
cells_table e x = record {
  key = codes "cells";
  columns = listed stages_columns.CELLS;
  rows = cell_rows e x.0 x.1.shape x.1;
}

-- a line for each stage, and then the column of each
abbrev pub AreStageTables : Election → List Column → List Table → Type 0
AreStageTables e columns tables = (stages : Table) × IsStagesTable columns stages × (tables ≡ stages ∷ map (cells_table e) (enumerate_from 0 columns))
