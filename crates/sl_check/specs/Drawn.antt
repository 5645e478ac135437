-- Among which entries seats are distributed, and a lot decides (docs/language.md, section 2).
use Rattle.std.specs.Prelude.{List, None, Option, Some}
use Rattle.std.specs.Option.{option_or}
use Rattle.sl_law_meaning.specs.book.Trees.{ExprTree, fact, grow, name, pair, split, sum}
use Rattle.sl_law_meaning.specs.book.Typing.{Column, type_of}
use Rattle.sl_base_terms.specs.declared.shape.Shape.{Shape}

-- the shape of the votes by which the split or the growth in an expression distributes seats, if it has one
abbrev pub given_shape : List Column → ExprTree → Option Shape
given_shape cs (fact at told) = None
given_shape cs (name at n) = None
given_shape cs (sum at x over) = given_shape cs x
given_shape cs (pair at pairing x y) = option_or (given_shape cs x) (given_shape cs y)
given_shape cs (split at s v method minima majority) = Some (type_of cs v).shape
given_shape cs (grow at s v method m cap majority) = Some (type_of cs v).shape
