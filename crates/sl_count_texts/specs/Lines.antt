-- Lines of words, and texts that are written word by word (docs/output.md, section 1).
use Rattle.std.specs.Prelude.{ℕ, Bool, true, false, List, [], ◌∷◌, ◌++◌, codes, nat_eq, if◌then◌else◌}
use Rattle.std.specs.Fmt.{decimal}
use Rattle.sl_base_quotients.specs.Quotient.{Quotient}

-- a quotient, not reduced; infinite where its denominator is 0
abbrev pub ratio_word : Quotient → List ℕ
ratio_word q = if nat_eq q.den 0 then codes "inf" else decimal q.num ++ (codes "/" ++ decimal q.den)

-- words separated by one blank, and the end of the line
abbrev pub line : List (List ℕ) → List ℕ
line [] = 10 ∷ []
line (word ∷ []) = word ++ 10 ∷ []
line (word ∷ words) = word ++ 32 ∷ line words

-- a text so far: its bytes, and whether its last line has begun, that is, has a word and no end yet
pub record Draft : Type 0 where
  pub bytes : List ℕ
  pub begun : Bool

-- a text without a byte
abbrev pub no_text : Draft
no_text = record { bytes = []; begun = false }

-- one more word in the last line, after a blank if the line has begun
abbrev pub with_word : Draft → List ℕ → Draft
with_word d word = record { bytes = d.bytes ++ (if d.begun then 32 ∷ word else word); begun = true }

-- so many more words in the last line
abbrev pub with_words : Draft → List (List ℕ) → Draft
with_words d [] = d
with_words d (word ∷ words) = with_words (with_word d word) words

-- the end of the last line
abbrev pub with_end : Draft → Draft
with_end d = record { bytes = d.bytes ++ 10 ∷ []; begun = false }

-- whole lines after the text
abbrev pub with_lines : Draft → List ℕ → Draft
with_lines d lines = record { bytes = d.bytes ++ lines; begun = false }
