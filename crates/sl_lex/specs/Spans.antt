-- What tokens say of the text between their offsets.
use Rattle.std.specs.Prelude.{◌≡◌, ℕ, ◌<◌, ◌≤◌, List, [], ◌∷◌, length, slice_range}
use Rattle.sl_lex.specs.declared.keyword.Keyword.{Keyword}
use Rattle.sl_base_quotients.specs.declared.limits.TheConstants.{MAX_NUMBER}
use Rattle.sl_base_quotients.specs.declared.spelling.TheConstants.{MAX_NAME_BYTES}
use Rattle.sl_lex.specs.declared.token.Kind.{Kind}
use Rattle.sl_lex.specs.declared.token.Kind.TheVariants as kinds
use Rattle.sl_lex.specs.declared.token.Token.{Token}
use Rattle.sl_lex.specs.Keywords.{spelling}
use Rattle.sl_lex.specs.Pieces.{word, number, text, IsPiece}
use Rattle.sl_lex.specs.Tokens.{number_of, sign}

-- the bytes of a token of that kind
abbrev pub IsSpelled : Kind → List ℕ → Type 0
IsSpelled (kinds.Keyword k) bytes = bytes ≡ spelling k
IsSpelled kinds.Name bytes = IsPiece word bytes × (length bytes ≤ MAX_NAME_BYTES) × ((k : Keyword) → bytes ≡ spelling k → ⊥)
IsSpelled (kinds.Number n) bytes = IsPiece number bytes × (n ≡ number_of bytes) × (n ≤ MAX_NUMBER)
IsSpelled kinds.Text bytes = IsPiece text bytes
IsSpelled (kinds.Mark m) bytes = bytes ≡ sign m

-- a token that stands in the text, at that offset or later
pub record IsSpan (at : ℕ) (source : List ℕ) (token : Token) : Type 0 where
  pub behind : at ≤ token.start
  pub some : token.start < token.end
  pub inside : token.end ≤ length source
  pub spelled : IsSpelled token.kind (slice_range source token.start token.end)

-- tokens that stand in the text one after the other, at that offset or later
abbrev pub AreSpans : ℕ → List ℕ → List Token → Type 0
AreSpans at source [] = Unit {0}
AreSpans at source (t ∷ ts) = IsSpan at source t × AreSpans t.end source ts
