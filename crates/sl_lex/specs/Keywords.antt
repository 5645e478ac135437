-- How each keyword is spelled, and which keyword a word is (docs/language.md, section 1).
use Rattle.std.specs.Prelude.{ℕ, List, [], ◌∷◌, Option, codes, find}
use Rattle.std.specs.Str.{bytes_eq}
use Rattle.sl_lex.specs.declared.keyword.Keyword.{Keyword}
use Rattle.sl_lex.specs.declared.keyword.Keyword.TheVariants.{Rulebook, Law, House, Eligible, Valid, At, Least, Per, Or, Stage, Seats, Counted, Winners, Outside, Independents, Population, Minority, Sum, Larger, Less, Split, Grow, Atleast, Majority, Prefer, Refuse, Party, Land, All, Adams, Dean, Hill, Webster, Jefferson, Hamilton, Keep, Cover}

-- the bytes of a keyword
abbrev pub spelling : Keyword → List ℕ
spelling Rulebook = codes "rulebook"
spelling Law = codes "law"
spelling House = codes "house"
spelling Eligible = codes "eligible"
spelling Valid = codes "valid"
spelling At = codes "at"
spelling Least = codes "least"
spelling Per = codes "per"
spelling Or = codes "or"
spelling Stage = codes "stage"
spelling Seats = codes "seats"
spelling Counted = codes "counted"
spelling Winners = codes "winners"
spelling Outside = codes "outside"
spelling Independents = codes "independents"
spelling Population = codes "population"
spelling Minority = codes "minority"
spelling Sum = codes "sum"
spelling Larger = codes "larger"
spelling Less = codes "less"
spelling Split = codes "split"
spelling Grow = codes "grow"
spelling Atleast = codes "atleast"
spelling Majority = codes "majority"
spelling Prefer = codes "prefer"
spelling Refuse = codes "refuse"
spelling Party = codes "party"
spelling Land = codes "land"
spelling All = codes "all"
spelling Adams = codes "adams"
spelling Dean = codes "dean"
spelling Hill = codes "hill"
spelling Webster = codes "webster"
spelling Jefferson = codes "jefferson"
spelling Hamilton = codes "hamilton"
spelling Keep = codes "keep"
spelling Cover = codes "cover"

-- in the order in which a book has them
abbrev pub keywords : List Keyword
keywords = Rulebook ∷ Law ∷ House ∷ Eligible ∷ Valid ∷ At ∷ Least ∷ Per ∷ Or ∷ Stage ∷ Seats ∷ Counted ∷ Winners ∷ Outside ∷ Independents ∷ Population ∷ Minority ∷ Sum ∷ Larger ∷ Less ∷ Split ∷ Grow ∷ Atleast ∷ Majority ∷ Prefer ∷ Refuse ∷ Party ∷ Land ∷ All ∷ Adams ∷ Dean ∷ Hill ∷ Webster ∷ Jefferson ∷ Hamilton ∷ Keep ∷ Cover ∷ []

-- the keyword so spelled, if there is one
abbrev pub keyword_of : List ℕ → Option Keyword
keyword_of word = find (λ k. bytes_eq (spelling k) word) keywords
