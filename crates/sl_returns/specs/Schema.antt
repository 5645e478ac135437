-- The schema of the records: the kinds by their words, the columns by their names, and what each cell holds (docs/returns.md, section 1).
use Rattle.std.specs.Prelude.{ℕ, List, [], ◌∷◌, Option, codes, find, get_or}
use Rattle.std.specs.Str.{bytes_eq}
use Rattle.sl_base_quotients.specs.declared.limits.TheConstants.{MAX_SEATS, MAX_VOTES}
use Rattle.sl_law_meaning.specs.declared.limits.TheConstants.{MAX_SLATE}
use Rattle.sl_returns.specs.declared.schema.Kind.{Kind}
use Rattle.sl_returns.specs.declared.schema.Kind.TheVariants as kind
use Rattle.sl_returns.specs.declared.schema.Content.{Content}
use Rattle.sl_returns.specs.declared.schema.Content.TheVariants as content
use Rattle.sl_returns.specs.declared.schema.Named.TheVariants as named
use Rattle.sl_returns.specs.declared.schema.Quantity.{Quantity}
use Rattle.sl_returns.specs.declared.schema.Quantity.TheVariants as quantity

-- the names of the columns
abbrev pub column_names : List (List ℕ)
column_names = codes "kind" ∷ codes "land" ∷ codes "party" ∷ codes "a" ∷ codes "b" ∷ codes "c" ∷ []

-- ---- kinds

abbrev pub word_of : Kind → List ℕ
word_of kind.House = codes "house"
word_of kind.Land = codes "land"
word_of kind.Party = codes "party"
word_of kind.List = codes "list"
word_of kind.Win = codes "win"
word_of kind.Lot = codes "lot"

abbrev pub kinds : List Kind
kinds = kind.House ∷ kind.Land ∷ kind.Party ∷ kind.List ∷ kind.Win ∷ kind.Lot ∷ []

-- the kind that a word names
abbrev pub kind_named : List ℕ → Option Kind
kind_named word = find (λ k. bytes_eq word (word_of k)) kinds

-- ---- cells

-- what the cells of a record hold, after the first
abbrev pub contents : Kind → List Content
contents kind.House = content.Blank ∷ content.Blank ∷ content.Number quantity.House ∷ content.Blank ∷ content.Blank ∷ []
contents kind.Land = content.NewName named.Land ∷ content.Blank ∷ content.Number quantity.Population ∷ content.Blank ∷ content.Blank ∷ []
contents kind.Party = content.Blank ∷ content.NewName named.Party ∷ content.Number quantity.Minority ∷ content.Blank ∷ content.Blank ∷ []
contents kind.List =
    content.KnownName named.Land ∷ content.KnownName named.Party ∷ content.Number quantity.Valid ∷ content.Number quantity.Counted ∷ content.NumberOrNone quantity.Slate ∷ []
contents kind.Win =
    content.KnownName named.Land ∷ content.KnownNameOrNone named.Party ∷ content.NewName named.Constituency ∷ content.Number quantity.First ∷ content.Number quantity.ValidFirst ∷ []
contents kind.Lot =
    content.KnownNameOrNone named.Land ∷ content.KnownNameOrNone named.Party ∷ content.StageName ∷ content.KnownNameOrNone named.Constituency ∷ content.Blank ∷ []

-- what the cell of a column holds
abbrev pub content_of : Kind → ℕ → Content
content_of k column = get_or (content.Kind ∷ contents k) column content.Blank

-- ---- numbers

-- the least that a number may be
abbrev pub least : Quantity → ℕ
least quantity.House = 1
least quantity.Population = 0
least quantity.Minority = 0
least quantity.Valid = 0
least quantity.Counted = 0
least quantity.Slate = 0
least quantity.First = 1
least quantity.ValidFirst = 0

-- the greatest
abbrev pub greatest : Quantity → ℕ
greatest quantity.House = MAX_SEATS
greatest quantity.Population = MAX_VOTES
greatest quantity.Minority = 1
greatest quantity.Valid = MAX_VOTES
greatest quantity.Counted = MAX_VOTES
greatest quantity.Slate = MAX_SLATE
greatest quantity.First = MAX_VOTES
greatest quantity.ValidFirst = MAX_VOTES
