-- Splits and growths as the compiler lays them out.
use Rattle.std.specs.Prelude.{◌≡◌, ℕ, ◌+◌, ◌≤◌, [], Option, Some, slice_get}
use Rattle.sl_base_quotients.specs.declared.method.Method.{Method}
use Rattle.sl_base_quotients.specs.declared.method.Method.TheVariants as by
use Rattle.sl_base_terms.specs.declared.shape.Shape.{Shape}
use Rattle.sl_base_terms.specs.declared.shape.Shape.TheVariants as shape
use Rattle.sl_code_instructions.specs.Codes.{CountingCode}
use Rattle.sl_law_meaning.specs.declared.limits.TheConstants.{MAX_DEPTH}
use Rattle.sl_compile_pieces.specs.declared.arguments.Arguments.{Arguments}
use Rattle.sl_compile_pieces.specs.exprs.Slots.{StandsOn}
use Rattle.sl_compile.specs.Codes.{HasSoFar}

-- the arguments of a split or a growth are on one level after the other: seats, votes, and minima if there are any
pub record AreArguments (level : ℕ) (s v : Shape) (from : Arguments) : Type 0 where
  pub low : level + 1 ≤ MAX_DEPTH
  pub amounts : StandsOn level s from.amounts
  pub votes : StandsOn (level + 1) v from.votes
  pub minima : (slot : ℕ) → from.minima ≡ Some slot → (level + 2 ≤ MAX_DEPTH) × StandsOn (level + 2) v slot

-- Hamilton's method takes no minima
abbrev pub MayHave : Method → Option ℕ → Type 0
MayHave by.Hamilton (Some slot) = ⊥
MayHave _ _ = Unit {0}

-- the slots of a book, and a column of lists as the base of its last clause
pub record HasBase (from : ℕ) (code : CountingCode) : Type 0 where
  pub so_far : HasSoFar [] 0 code
  pub base : slice_get code.slots from ≡ Some shape.List
