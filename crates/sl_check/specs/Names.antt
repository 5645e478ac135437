-- The stages that an expression names.
use Rattle.std.specs.List.{list_any}
use Rattle.std.specs.Prelude.{Bool, List, false, ◌||◌, ℕ}
use Rattle.std.specs.Str.{bytes_eq}
use Rattle.sl_law_meaning.specs.book.Trees.{ExprTree, atleast, fact, grow, name, pair, split, sum, without}

-- an expression names one of these stages
abbrev pub names_one_of : List (List ℕ) → ExprTree → Bool
names_one_of names (fact at told) = false
names_one_of names (name at n) = list_any (bytes_eq n) names
names_one_of names (sum at e over) = names_one_of names e
names_one_of names (pair at pairing l r) = names_one_of names l || names_one_of names r
names_one_of names (split at s v method without majority) = names_one_of names s || names_one_of names v
names_one_of names (split at s v method (atleast m) majority) = names_one_of names s || (names_one_of names v || names_one_of names m)
names_one_of names (grow at s v method m cap majority) = names_one_of names s || (names_one_of names v || names_one_of names m)
