-- The tokens of a text, or its fault (docs/language.md, section 1).
use Rattle.std.specs.Prelude.{◌≡◌, ℕ, ◌+◌, ◌*◌, ◌-◌, ◌<◌, List, [], ◌∷◌, ◌++◌, length, Option, Some, None, codes, find, fold}
use Rattle.std.specs.Option.{option_map, option_to_list}
use Rattle.std.specs.Str.{bytes_eq}
use Rattle.sl_lex.specs.declared.keyword.Keyword.{Keyword}
use Rattle.sl_base_quotients.specs.declared.limits.TheConstants.{MAX_NUMBER}
use Rattle.sl_base_quotients.specs.declared.spelling.TheConstants.{MAX_NAME_BYTES}
use Rattle.sl_lex.specs.declared.token.Kind.{Kind}
use Rattle.sl_lex.specs.declared.token.Kind.TheVariants as kinds
use Rattle.sl_lex.specs.declared.token.Mark.{Mark}
use Rattle.sl_lex.specs.declared.token.Mark.TheVariants.{Semicolon, Equals, Comma, Open, Close}
use Rattle.sl_lex.specs.declared.token.Token.{Token}
use Rattle.sl_lex.specs.declared.fault.LexFault.{LexFault}
use Rattle.sl_lex.specs.declared.fault.LexFault.TheVariants.{BadByte, OpenString, BigNumber, LongName, NoMemory}
use Rattle.sl_lex.specs.Keywords.{keyword_of}
use Rattle.sl_lex.specs.Pieces.{Form, blank, comment, word, number, text, mark, IsLongest, BeginsNone}

-- the number that digits spell
abbrev pub number_of : List ℕ → ℕ
number_of digits = fold (λ n b. 10 * n + (b - 48)) 0 digits

-- the bytes of a mark
abbrev pub sign : Mark → List ℕ
sign Semicolon = codes ";"
sign Equals = codes "="
sign Comma = codes ","
sign Open = codes "("
sign Close = codes ")"

-- the mark of these bytes, if there is one
abbrev pub mark_of : List ℕ → Option Mark
mark_of bytes = find (λ m. bytes_eq (sign m) bytes) (Semicolon ∷ Equals ∷ Comma ∷ Open ∷ Close ∷ [])

-- a keyword, or else a name
abbrev pub word_kind : Option Keyword → Kind
word_kind (Some k) = kinds.Keyword k
word_kind None = kinds.Name

-- what token a piece is, if it is one
abbrev pub kind_of : Form → List ℕ → Option Kind
kind_of blank bytes = None
kind_of comment bytes = None
kind_of word bytes = Some (word_kind (keyword_of bytes))
kind_of number bytes = Some (kinds.Number (number_of bytes))
kind_of text bytes = Some kinds.Text
kind_of mark bytes = option_map (λ m. kinds.Mark m) (mark_of bytes)

-- a word of too many bytes, or too great a number
abbrev pub IsTooMuch : Form → List ℕ → Type 0
IsTooMuch word bytes = MAX_NAME_BYTES < length bytes
IsTooMuch number bytes = MAX_NUMBER < number_of bytes
IsTooMuch _ bytes = ⊥

pub record Piece : Type 0 where
  pub form : Form
  pub bytes : List ℕ

-- the bytes from here up to rest, cut from the front into longest pieces, none of them too much
abbrev pub IsCut : List Piece → List ℕ → List ℕ → Type 0
IsCut [] here rest = here ≡ rest
IsCut (p ∷ ps) here rest = (behind : List ℕ) × (here ≡ p.bytes ++ behind) × IsLongest p.form p.bytes behind × (IsTooMuch p.form p.bytes → ⊥) × IsCut ps behind rest

-- the tokens among the pieces, the first of which begins at that offset
abbrev pub tokens_from : ℕ → List Piece → List Token
tokens_from at [] = []
tokens_from at (p ∷ ps) =
    let behind : ℕ = at + length p.bytes in
    option_to_list (option_map (λ k. record { kind = k; start = at; end = behind }) (kind_of p.form p.bytes)) ++ tokens_from behind ps

-- the text is cut into pieces, of which these are the tokens
abbrev pub AreTokens : List ℕ → List Token → Type 0
AreTokens source tokens = (pieces : List Piece) × IsCut pieces source [] × (tokens ≡ tokens_from 0 pieces)

-- the longest piece that begins here has that form, and is too much
abbrev pub BeginsTooMuch : Form → List ℕ → Type 0
BeginsTooMuch form here = (bytes : List ℕ) × (behind : List ℕ) × (here ≡ bytes ++ behind) × IsLongest form bytes behind × IsTooMuch form bytes

-- the fault that shows in the bytes here, which begin at that offset; 34 is the quote
abbrev pub ShowsAt : ℕ → List ℕ → LexFault → Type 0
ShowsAt at [] fault = ⊥
ShowsAt at (b ∷ bytes) (BadByte offset) = (offset ≡ at) × BeginsNone (b ∷ bytes) × (b ≡ 34 → ⊥)
ShowsAt at (b ∷ bytes) (OpenString offset) = (offset ≡ at) × BeginsNone (b ∷ bytes) × (b ≡ 34)
ShowsAt at (b ∷ bytes) (BigNumber offset) = (offset ≡ at) × BeginsTooMuch number (b ∷ bytes)
ShowsAt at (b ∷ bytes) (LongName offset) = (offset ≡ at) × BeginsTooMuch word (b ∷ bytes)
ShowsAt at (b ∷ bytes) NoMemory = ⊥

-- the text is cut up to a rest, and the fault shows there
abbrev pub IsFault : List ℕ → LexFault → Type 0
IsFault source fault = (pieces : List Piece) × (rest : List ℕ) × IsCut pieces source rest × ShowsAt (length source - length rest) rest fault

-- the text has tokens
abbrev pub HasTokens : List ℕ → Type 0
HasTokens source = (tokens : List Token) × AreTokens source tokens

-- it has a fault
abbrev pub HasFault : List ℕ → Type 0
HasFault source = (fault : LexFault) × IsFault source fault

-- memory ran out, or the text has that fault
abbrev pub IsRefusal : List ℕ → LexFault → Type 0
IsRefusal source NoMemory = Unit {0}
IsRefusal source fault = IsFault source fault
