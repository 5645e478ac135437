-- Units that are the same.
use Rattle.std.proofs.Common.{◌≡◌, true, refl}
use Rattle.sl_law_meaning.specs.declared.book.Unit.{Unit as Units}
use Rattle.sl_law_meaning.specs.declared.book.Unit.TheVariants as unit
use Rattle.sl_law_meaning.specs.book.Typing.{same_unit}

pub same_unit_is : (a b : Units) → same_unit a b ≡ true → a ≡ b
same_unit_is unit.Seats unit.Votes h = cc
same_unit_is unit.Votes unit.Seats h = cc
same_unit_is _ _ h = refl

pub same_unit_self : (a : Units) → same_unit a a ≡ true
same_unit_self unit.Seats = refl
same_unit_self unit.Votes = refl
