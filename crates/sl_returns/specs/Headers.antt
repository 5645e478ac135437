-- The first record, by the version of the returns (docs/returns.md, section 1).
use Rattle.std.specs.Prelude.{ℕ, Bool, List, [], ◌∷◌, Option, codes, drop, find}
use Rattle.std.specs.Cmp.Lexicographic.{pointwise}
use Rattle.std.specs.Str.{bytes_eq}
use Rattle.sl_returns.specs.declared.header.Version.{Version}
use Rattle.sl_returns.specs.declared.header.Version.TheVariants as version
use Rattle.sl_returns.specs.Cells.{Record}
use Rattle.sl_returns.specs.Schema.{column_names}

-- the header that begins with a word: the names of the columns after it
abbrev pub header : List ℕ → Record
header word = word ∷ drop 1 column_names

abbrev pub is_header : List ℕ → Record → Bool
is_header word r = pointwise bytes_eq r (header word)

-- the word of each version
abbrev pub first_word : Version → List ℕ
first_word version.First = codes "kind"
first_word version.Second = codes "kind2"

-- the version whose header a record is
abbrev pub version_of : Record → Option Version
version_of r = find (λ v. is_header (first_word v) r) (version.First ∷ version.Second ∷ [])
