-- An explanation as it stands on the page, to the byte (docs/explanations.md).
use Rattle.std.specs.Fmt.{decimal}
use Rattle.std.specs.Global.{Vec}
use Rattle.std.specs.List.{position_or_len}
use Rattle.std.specs.Prelude.{List, None, Option, Some, [], codes, drop, flat_map, if◌then◌else◌, length, map, max, min, replicate, suc, take, zero, ◌-◌, ◌++◌, ◌∷◌, ℕ}
use Rattle.sl_explain_texts.specs.Heads.{head_of}
use Rattle.sl_explain_texts.specs.Languages.{chosen}
use Rattle.sl_explain_texts.specs.Lines.{column_of, line_number, line_start, line_text, shown_count}
use Rattle.sl_explain_texts.specs.Shown.{begins_character, shown}
use Rattle.sl_explain_texts.specs.declared.explanation.Explanation.{Explanation}
use Rattle.sl_explain_texts.specs.declared.explanation.Span.{Span}
use Rattle.sl_explain_texts.specs.declared.language.Language.{Language}
use Rattle.sl_explain_texts.specs.declared.texts.rows.TheConstants.{HELP}

-- the bytes from the first that begins a character on
abbrev pub from_character : List ℕ → List ℕ
from_character bytes = drop (position_or_len begins_character bytes) bytes

-- bytes before the character after the first so many
abbrev pub first_characters : ℕ → List ℕ → List ℕ
first_characters most [] = []
first_characters zero (b ∷ bytes) = if begins_character b then [] else b ∷ first_characters zero bytes
first_characters (suc most) (b ∷ bytes) = b ∷ (if begins_character b then first_characters most bytes else first_characters (suc most) bytes)

module _ (line : List ℕ) (at : ℕ) where
  -- a line from 60 bytes before a place in it on, or from the character after them
  abbrev pub near : List ℕ
  near = from_character (drop (min at (length line) - 60) line)

  -- what is shown of the line: 100 characters of that
  abbrev pub part : List ℕ
  part = first_characters 100 near

  -- where the place is in that part
  abbrev pub place : ℕ
  place = min at (length line) - (length line - length near)

  -- how many characters of it stand before the place, and how many of so many bytes from there on
  abbrev pub before : ℕ
  before = shown_count part (take place part)

  abbrev pub marked : ℕ → ℕ
  marked bytes = shown_count part (take bytes (drop place part))

-- a line with its number, and under it a mark below so many bytes from a place on, at least one character
abbrev pub line_shown : (number line : List ℕ) (at bytes : ℕ) → List ℕ
line_shown number line at bytes =
    replicate (length number) 32 ++ codes " |\n" ++ number ++ codes " | " ++ shown (part line at) ++ codes "\n"
    ++ replicate (length number) 32 ++ codes " | " ++ replicate (before line at) 32 ++ replicate (max (marked line at bytes) 1) 94 ++ codes "\n"

-- the place of a span of an input: the file, the line and the column, and the line itself
abbrev pub place_shown : (path input : List ℕ) → Span → List ℕ
place_shown path input span =
    replicate (length number) 32 ++ codes "--> " ++ path ++ codes ":" ++ number ++ codes ":" ++ decimal (column_of input span.start) ++ codes "\n"
    ++ line_shown number (line_text input span.start) (span.start - line_start input span.start) (span.end - span.start) where
      number : List ℕ
      number = decimal (line_number input span.start)

-- the file, with a place in it if an explanation has one, and nothing where no file is spoken of
abbrev pub file_shown : Option (List ℕ) → List ℕ → Option Span → List ℕ
file_shown None input span = []
file_shown (Some path) input None = codes " --> " ++ path ++ codes "\n"
file_shown (Some path) input (Some span) = place_shown path input span

abbrev pub lines_of : (label : List ℕ) → List (List ℕ) → List ℕ
lines_of label = flat_map (λ text. label ++ text ++ codes "\n")

-- the bytes of some texts
abbrev pub texts_in : List (Vec ℕ) → List (List ℕ)
texts_in = map (λ v. v.items)

-- what to do: the first remedy, the records that it speaks of, and the other remedies
abbrev pub advice : Explanation → List (List ℕ)
advice x = take 1 (texts_in x.remedies.items) ++ texts_in x.records.items ++ drop 1 (texts_in x.remedies.items)

-- what stands before each line on what to do
abbrev pub help_label : Language → List ℕ
help_label language = chosen language HELP.0.now HELP.1.now

-- an explanation as it is written, of an input by that path
abbrev pub page_of : Language → (path : Option (List ℕ)) (input : List ℕ) → Explanation → List ℕ
page_of language path input x =
    head_of language x.code ++ x.sentence.items ++ codes "\n" ++ file_shown path input x.span
    ++ lines_of (help_label language) (advice x) ++ lines_of (codes "") (texts_in x.lines.items)
