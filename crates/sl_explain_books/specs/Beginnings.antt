-- How a book may begin: by the sorts of its first tokens.
use Rattle.std.specs.Prelude.{ℕ, List, [], codes, map, if◌then◌else◌, ◌⊎◌}
use Rattle.std.specs.Str.{bytes_eq}
use Rattle.sl_lex.specs.declared.token.Kind.{Kind}
use Rattle.sl_lex.specs.declared.token.Kind.TheVariants as kinds
use Rattle.sl_lex.specs.declared.token.Token.{Token}
use Rattle.sl_parse.specs.declared.fault.Cause.TheVariants.{Expected}
use Rattle.sl_explain_books.specs.declared.beginning.Sort.{Sort}
use Rattle.sl_explain_books.specs.declared.beginning.Sort.TheVariants.{Keyword, Mark, Number, Text, Name, Vacate}
use Rattle.sl_parse.specs.Faults.{IsFault}
use Rattle.sl_parse.specs.Parsing.{limits, HasBook}

-- the sort of a token of that kind with these bytes
abbrev pub sort_of : Kind → List ℕ → Sort
sort_of (kinds.Keyword k) bytes = Keyword k
sort_of (kinds.Mark m) bytes = Mark m
sort_of (kinds.Number n) bytes = Number
sort_of kinds.Text bytes = Text
sort_of kinds.Name bytes = if bytes_eq bytes (codes "vacate") then Vacate else Name

-- a text in quotes, in which a name and the word vacate stand
abbrev pub examples : List ℕ
examples = codes "\"vacate\""

-- a token of each sort, with its bytes among the examples
abbrev pub example_of : Sort → Token
example_of (Keyword k) = record { kind = kinds.Keyword k; start = 1; end = 2 }
example_of (Mark m) = record { kind = kinds.Mark m; start = 1; end = 2 }
example_of Number = record { kind = kinds.Number 1; start = 1; end = 2 }
example_of Text = record { kind = kinds.Text; start = 0; end = 8 }
example_of Name = record { kind = kinds.Name; start = 1; end = 2 }
example_of Vacate = record { kind = kinds.Name; start = 1; end = 7 }

-- The tokens of a text are a book, or nothing is wrong with them but that they end too early.
abbrev pub IsBeginning : (text : List ℕ) → List Token → Type 0
IsBeginning text tokens = HasBook text tokens ⊎ IsFault text limits tokens Expected []

-- tokens of these sorts are the beginning of a book
abbrev pub AreBeginning : List Sort → Type 0
AreBeginning sorts = IsBeginning examples (map example_of sorts)
