-- How a value of `CellCursors` keeps its cells.
use Rattle.std.specs.Prelude.{◌≡◌, ℕ, ◌+◌, ◌*◌, ◌<◌, ◌≤◌, Some, None, slice_index, if◌then◌else◌}
use Rattle.sl_base_quotients.specs.declared.limits.TheConstants.{MAX_LANDS, MAX_PARTIES}
use Rattle.sl_base_terms.specs.Shapes.{shape_number}
use Rattle.sl_base_terms.specs.declared.shape.Shape.{Shape}
use Rattle.sl_base_terms.specs.declared.shape.Shape.TheVariants as shape
use Rattle.sl_code_steps.specs.declared.cell_cursors.CellCursors.TheInside.{Inside}
use Rattle.sl_code_steps.specs.inner.Positions.{Position}

-- the cell for a column of a shape, whether its cursors are set or not
abbrev pub cell_of : Inside → Shape → ℕ
cell_of c shape = slice_index c.cells (shape_number shape)

abbrev pub position_in : Inside → Position
position_in c = record {
  party = if c.is_party_set then Some (cell_of c shape.Party) else None;
  land = if c.is_land_set then Some (cell_of c shape.Land) else None;
  parties = c.parties;
}

-- each cell is that of the numbers at which the cursors stand, or stood last; all of them are small
pub record FitsCells (c : Inside) : Type 0 where
  pub one : cell_of c shape.One ≡ 0
  pub row : c.row ≡ cell_of c shape.Land * c.parties
  pub list : cell_of c shape.List ≡ c.row + cell_of c shape.Party
  pub party : cell_of c shape.Party < MAX_PARTIES
  pub rows : c.row ≤ MAX_LANDS * MAX_PARTIES
  pub parties : c.parties ≤ MAX_PARTIES
