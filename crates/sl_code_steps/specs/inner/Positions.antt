-- What the cursors of the party and the Land stand at, and the cells of columns there.
use Rattle.std.specs.Prelude.{ℕ, ◌+◌, ◌*◌, Option, Some}
use Rattle.sl_base_terms.specs.declared.shape.Shape.{Shape}
use Rattle.sl_base_terms.specs.declared.shape.Shape.TheVariants as shape
use Rattle.sl_code_semantics.specs.Places.{both}

-- each is set or unset; how many parties there are is how many lists a Land's row has
pub record Position : Type 0 where
  pub party : Option ℕ
  pub land : Option ℕ
  pub parties : ℕ

-- the cell there in a column of a shape
abbrev pub cell_there : Shape → Position → Option ℕ
cell_there shape.One p = Some 0
cell_there shape.Party p = p.party
cell_there shape.Land p = p.land
cell_there shape.List p = both p.land p.party (λ land party. land * p.parties + party)
