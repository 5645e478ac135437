-- What the parser needs of the tokens of a text.
use Rattle.std.specs.Prelude.{◌≡◌, ℕ, ◌<◌, ◌≤◌, ◌++◌, List, [], ◌∷◌, length, slice_range}
use Rattle.std.specs.List.{AllByRecursion}
use Rattle.sl_base_quotients.specs.declared.limits.TheConstants.{MAX_NUMBER}
use Rattle.sl_base_quotients.specs.declared.spelling.TheConstants.{MAX_NAME_BYTES}
use Rattle.sl_lex.specs.declared.token.Kind.{Kind}
use Rattle.sl_lex.specs.declared.token.Kind.TheVariants as kinds
use Rattle.sl_lex.specs.declared.token.Token.{Token}
use Rattle.sl_lex.specs.Pieces.{IsPiece, word, IsTextByte}

-- the bytes of a token
abbrev pub bytes_of : List ℕ → Token → List ℕ
bytes_of text t = slice_range text t.start t.end

-- the characters between the quotes of a text token
abbrev pub IsQuoted : List ℕ → Type 0
IsQuoted bytes = (inner : List ℕ) × (bytes ≡ 34 ∷ (inner ++ 34 ∷ [])) × AllByRecursion IsTextByte inner

-- what the bytes of a token of that kind are
abbrev pub FitsKind : Kind → List ℕ → Type 0
FitsKind (kinds.Keyword k) bytes = Unit {0}
FitsKind kinds.Name bytes = IsPiece word bytes × (length bytes ≤ MAX_NAME_BYTES)
FitsKind (kinds.Number n) bytes = n ≤ MAX_NUMBER
FitsKind kinds.Text bytes = IsQuoted bytes
FitsKind (kinds.Mark m) bytes = Unit {0}

-- a token stands in the text, and its bytes are those of its kind
pub record IsSpan (text : List ℕ) (t : Token) : Type 0 where
  pub start : t.start < t.end
  pub end : t.end ≤ length text
  pub fits : FitsKind t.kind (bytes_of text t)

abbrev pub AreSpans : List ℕ → List Token → Type 0
AreSpans text tokens = AllByRecursion (IsSpan text) tokens
