-- A piece's form shows in its first byte.
use Rattle.std.proofs.Common.{◌≡◌, ℕ, List, ◌∷◌, refl, arith}
use Rattle.sl_lex.specs.Pieces.{Form, blank, comment, word, number, text, mark, IsPiece, IsBlank, IsLetter, IsDigit, IsMark}

-- what the first byte of a piece of that form is
abbrev pub Begins : Form → ℕ → Type 0
Begins blank b = IsBlank b
Begins comment b = b ≡ 35
Begins word b = IsLetter b
Begins number b = IsDigit b
Begins text b = b ≡ 34
Begins mark b = IsMark b

pub first_byte : (f : Form) (b : ℕ) (bytes : List ℕ) → IsPiece f (b ∷ bytes) → Begins f b
first_byte blank b bytes h = h.0
first_byte comment b bytes h = h.0
first_byte word b bytes h = h.0
first_byte number b bytes h = h.0
first_byte text b bytes h = h.0
first_byte mark b bytes h = h.0

pub one_form : (f g : Form) (b : ℕ) → Begins f b → Begins g b → f ≡ g
one_form blank blank b h k = refl
one_form comment comment b h k = refl
one_form word word b h k = refl
one_form number number b h k = refl
one_form text text b h k = refl
one_form mark mark b h k = refl
one_form f g b h k = absurd (omega arith)
