-- Shapes of columns: their numbers, and whether two are the same.
use Rattle.std.specs.Prelude.{ℕ, Bool, true, false}
use Rattle.sl_base_terms.specs.declared.shape.Shape.{Shape}
use Rattle.sl_base_terms.specs.declared.shape.Shape.TheVariants as shape

abbrev pub shape_number : Shape → ℕ
shape_number shape.One = 0
shape_number shape.Party = 1
shape_number shape.Land = 2
shape_number shape.List = 3

abbrev pub same_shape : Shape → Shape → Bool
same_shape shape.One shape.One = true
same_shape shape.Party shape.Party = true
same_shape shape.Land shape.Land = true
same_shape shape.List shape.List = true
same_shape _ _ = false
