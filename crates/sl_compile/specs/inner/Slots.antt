-- The shapes of the slots below those of the stages.
use Rattle.std.specs.Prelude.{List, ◌++◌}
use Rattle.sl_base_terms.specs.declared.shape.Shape.{Shape}
use Rattle.sl_blocks.specs.Facts.{fact_shapes, closing_shapes}
use Rattle.sl_compile.specs.Codes.{passing_shapes}

abbrev pub low_shapes : List Shape
low_shapes = fact_shapes ++ (closing_shapes ++ passing_shapes)
