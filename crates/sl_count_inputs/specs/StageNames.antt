-- The stages of a rulebook by their names.
use Rattle.std.specs.Prelude.{ℕ, List, Option, map, position}
use Rattle.std.specs.Str.{bytes_eq}
use Rattle.sl_law_meaning.specs.book.Trees.{BookTree}

-- the names of a book's stages, in order
abbrev pub names_of : BookTree → List (List ℕ)
names_of tree = map (λ s. s.name) tree.stages

-- the number of the stage of that name, if there is one
abbrev pub stage_number : List ℕ → BookTree → Option ℕ
stage_number name tree = position (bytes_eq name) (names_of tree)
