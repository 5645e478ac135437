-- Shapes that are the same.
use Rattle.std.proofs.Common.{◌≡◌, true, refl}
use Rattle.sl_base_terms.specs.declared.shape.Shape.{Shape}
use Rattle.sl_base_terms.specs.declared.shape.Shape.TheVariants as shape
use Rattle.sl_base_terms.specs.Shapes.{same_shape}

pub same_shape_is : (a b : Shape) → same_shape a b ≡ true → a ≡ b
same_shape_is shape.One shape.One h = refl
same_shape_is shape.Party shape.Party h = refl
same_shape_is shape.Land shape.Land h = refl
same_shape_is shape.List shape.List h = refl
same_shape_is _ _ h = cc

pub same_shape_self : (a : Shape) → same_shape a a ≡ true
same_shape_self shape.One = refl
same_shape_self _ = refl
