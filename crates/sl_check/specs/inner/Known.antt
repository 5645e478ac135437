-- The columns that earlier stages have.
use Rattle.std.specs.Prelude.{List, [], ◌∷◌}
use Rattle.sl_law_meaning.specs.declared.book.Stage.{Stage}
use Rattle.sl_law_meaning.specs.declared.book.ColumnType.{ColumnType}
use Rattle.sl_law_meaning.specs.book.Typing.{Column}

-- each stage's name with its type
abbrev pub columns : List Stage → List ColumnType → List Column
columns [] ts = []
columns (s ∷ ss) [] = []
columns (s ∷ ss) (t ∷ ts) = record { name = s.name; type = t } ∷ columns ss ts
