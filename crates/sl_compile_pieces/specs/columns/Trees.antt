-- Plans that go over the cells of columns: copies, pairs, sums (docs/compiler.md, section 1).
use Rattle.std.specs.Prelude.{ℕ, [], ◌∷◌}
use Rattle.sl_law_meaning.specs.declared.book.Axis.{Axis}
use Rattle.sl_law_meaning.specs.declared.book.Axis.TheVariants as axis
use Rattle.sl_law_meaning.specs.declared.book.Pairing.{Pairing}
use Rattle.sl_law_meaning.specs.declared.book.Pairing.TheVariants as pairings
use Rattle.sl_base_terms.specs.declared.shape.Shape.{Shape}
use Rattle.sl_base_terms.specs.declared.shape.Shape.TheVariants as shape
use Rattle.sl_code_instructions.specs.declared.instr.Instr.{Instr}
use Rattle.sl_code_instructions.specs.declared.instr.Instr.TheVariants.{Set, Add, Sub, Max, Get, Store}
use Rattle.sl_compile_plans.specs.declared.plan.Cursor.TheVariants as cursor
use Rattle.sl_compile_plans.specs.Trees.{Tree, Line, Then, Each}
pub use Rattle.sl_compile_pieces.specs.declared.registers.TheConstants.{TOTAL as total, CELL as cell, OTHER as other}

-- the plan for each cell of a column of that shape
abbrev pub cells_plan : Shape → Tree → Tree
cells_plan shape.One x = x
cells_plan shape.Party x = Each cursor.Party x
cells_plan shape.Land x = Each cursor.Land x
cells_plan shape.List x = Each cursor.Land (Each cursor.Party x)

abbrev pub copy_tree : Shape → (from to : ℕ) → Tree
copy_tree s from to = cells_plan s (Line (Get cell from ∷ (Store to cell ∷ [])))

-- what two cells make, in place of the first
abbrev pub pair_instr : Pairing → Instr
pair_instr pairings.Larger = Max cell other
pair_instr pairings.Less = Sub cell other

-- a pair of columns, cell by cell
abbrev pub pair_tree : Pairing → Shape → (left right to : ℕ) → Tree
pair_tree pairing s left right to = cells_plan s (Line (Get cell left ∷ (Get other right ∷ (pair_instr pairing ∷ (Store to cell ∷ [])))))

-- the sum of the cells that the inner plan goes over
abbrev pub add_cells : (Tree → Tree) → (from to : ℕ) → Tree
add_cells over from to = Then (Line (Set total 0 ∷ [])) (Then (over (Line (Get cell from ∷ (Add total cell ∷ [])))) (Line (Store to total ∷ [])))

-- by party, by Land, or of all cells of a column of that shape
abbrev pub sum_tree : Axis → Shape → (from to : ℕ) → Tree
sum_tree axis.Party s from to = Each cursor.Party (add_cells (Each cursor.Land) from to)
sum_tree axis.Land s from to = Each cursor.Land (add_cells (Each cursor.Party) from to)
sum_tree axis.All s from to = add_cells (cells_plan s) from to

-- the shape of a sum
abbrev pub summed : Axis → Shape
summed axis.Party = shape.Party
summed axis.Land = shape.Land
summed axis.All = shape.One
