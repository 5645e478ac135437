-- What stands at the front of the bytes that are still to be cut.
use Rattle.std.specs.Prelude.{◌≡◌, ℕ, ◌<◌, ◌≤◌, Bool, ◌||◌, ◌&&◌, not, nat_le, List, [], ◌∷◌, length, Option, ◌==◌, take, drop}
use Rattle.std.specs.Char.{is_ascii_alphanumeric}
use Rattle.sl_lex.specs.declared.scan.Class.{Class}
use Rattle.sl_lex.specs.declared.scan.Class.TheVariants as classes
use Rattle.sl_lex.specs.declared.token.Kind.{Kind}
use Rattle.sl_lex.specs.Pieces.{Form, IsBlank, IsDigit, IsLetter, IsMark, IsLongest}
use Rattle.sl_lex.specs.Tokens.{sign, kind_of, IsTooMuch}

-- what the byte may begin
abbrev pub IsOfClass : Class → ℕ → Type 0
IsOfClass classes.Blank b = IsBlank b
IsOfClass classes.Hash b = b ≡ 35
IsOfClass classes.Letter b = IsLetter b
IsOfClass classes.Digit b = IsDigit b
IsOfClass classes.Quote b = b ≡ 34
IsOfClass (classes.Mark m) b = sign m ≡ b ∷ []
IsOfClass classes.Other b = (IsBlank b → ⊥) × (b ≡ 35 → ⊥) × (IsLetter b → ⊥) × (IsDigit b → ⊥) × (b ≡ 34 → ⊥) × (IsMark b → ⊥)

abbrev pub is_word_byte : ℕ → Bool
is_word_byte b = is_ascii_alphanumeric b || b == 95

abbrev pub is_text_byte : ℕ → Bool
is_text_byte b = nat_le 32 b && nat_le b 126 && not (b == 34)

-- a first byte stands here, of which P holds
abbrev pub BeginsWith : (ℕ → Type 0) → List ℕ → Type 0
BeginsWith P [] = ⊥
BeginsWith P (b ∷ bytes) = P b

-- the longest piece here has so many bytes, and is that token, if it is one
pub record IsFront (here : List ℕ) (kind : Option Kind) (len : ℕ) : Type 0 where
  pub form : Form
  pub some : 0 < len
  pub within : len ≤ length here
  pub longest : IsLongest form (take len here) (drop len here)
  pub fits : IsTooMuch form (take len here) → ⊥
  pub is : kind ≡ kind_of form (take len here)
