-- Pieces of a text: blanks, comments and tokens. Whether bytes are one piece is decided by all of them, and no scanner is in it
-- (docs/language.md, section 1).
use Rattle.std.specs.Prelude.{◌≡◌, ℕ, ◌≤◌, List, [], ◌∷◌, ◌++◌, length, ◌⊎◌}
use Rattle.std.specs.List.{AllByRecursion}

abbrev pub IsDigit : ℕ → Type 0
IsDigit b = (48 ≤ b) × (b ≤ 57)

abbrev pub IsLetter : ℕ → Type 0
IsLetter b = ((65 ≤ b) × (b ≤ 90)) ⊎ ((97 ≤ b) × (b ≤ 122))

-- a letter, a digit or an underscore
abbrev pub IsWordByte : ℕ → Type 0
IsWordByte b = IsLetter b ⊎ (IsDigit b ⊎ (b ≡ 95))

-- what may stand between quotes: printable ASCII but for the quote
abbrev pub IsTextByte : ℕ → Type 0
IsTextByte b = (32 ≤ b) × (b ≤ 126) × (b ≡ 34 → ⊥)

-- space, tab, CR or LF
abbrev pub IsBlank : ℕ → Type 0
IsBlank b = (b ≡ 32) ⊎ ((b ≡ 9) ⊎ ((b ≡ 13) ⊎ (b ≡ 10)))

-- one of ; = , ( )
abbrev pub IsMark : ℕ → Type 0
IsMark b = (b ≡ 59) ⊎ ((b ≡ 61) ⊎ ((b ≡ 44) ⊎ ((b ≡ 40) ⊎ (b ≡ 41))))

pub data Form : Type 0 where
  blank : Form
  comment : Form
  word : Form
  number : Form
  text : Form
  mark : Form

-- these bytes are one piece of that form
abbrev pub IsPiece : Form → List ℕ → Type 0
IsPiece f [] = ⊥
IsPiece blank (b ∷ bytes) = IsBlank b × (bytes ≡ [])
IsPiece comment (b ∷ bytes) = (b ≡ 35) × AllByRecursion (λ c. c ≡ 10 → ⊥) bytes
IsPiece word (b ∷ bytes) = IsLetter b × AllByRecursion IsWordByte bytes
IsPiece number (b ∷ bytes) = IsDigit b × AllByRecursion IsDigit bytes
IsPiece text (b ∷ bytes) = (b ≡ 34) × (inner : List ℕ) × (bytes ≡ inner ++ 34 ∷ []) × AllByRecursion IsTextByte inner
IsPiece mark (b ∷ bytes) = IsMark b × (bytes ≡ [])

-- a piece that stands in front of rest, and no longer piece does
pub record IsLongest (form : Form) (piece rest : List ℕ) : Type 0 where
  pub is : IsPiece form piece
  pub longest : (other : Form) (longer behind : List ℕ) → IsPiece other longer → longer ++ behind ≡ piece ++ rest → length longer ≤ length piece

-- no piece begins here
abbrev pub BeginsNone : List ℕ → Type 0
BeginsNone here = (form : Form) (piece behind : List ℕ) → IsPiece form piece → here ≡ piece ++ behind → ⊥
