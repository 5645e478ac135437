-- An earlier seat table that is read beside a count: the text that `count` writes (docs/output.md, section 1; docs/report.md).
use Rattle.std.specs.Prelude.{◌≡◌, ℕ, Bool, false, true, ◌&&◌, ◌||◌, List, [], ◌∷◌, None, Option, Some, codes, filter_map, is_some, length, map, nat_eq, nat_lt, not, sum_by, if◌then◌else◌, ◌++◌, ◌-◌}
use Rattle.std.specs.Global.{Vec}
use Rattle.std.specs.List.{after_first, before_first, list_all, list_any, slice_split}
use Rattle.std.specs.Str.Lines.{lines}
use Rattle.std.specs.Str.{bytes_eq, is_utf8}
use Rattle.sl_count_inputs.specs.declared.input.Bytes.TheVariants.{TooLong, Whole}
use Rattle.sl_count_inputs.specs.declared.input.Bytes.{Bytes}
use Rattle.sl_report_parties.specs.Sums.{capped}
use Rattle.sl_report_parties.specs.declared.earlier.EarlierParty.{EarlierParty}
use Rattle.sl_returns.specs.Cells.{is_number, number_of}

-- ---- its text

-- the words of a line, between blanks
abbrev pub words : List ℕ → List (List ℕ)
words line = slice_split (λ b. nat_eq b 32) line

-- the name and the seats of a line `party P S D`
abbrev pub told_party : List (List ℕ) → Option (List ℕ × ℕ)
told_party (word ∷ name ∷ seats ∷ direct ∷ []) =
    if bytes_eq word (codes "party") && is_number seats && is_number direct then Some (name, number_of seats) else None
told_party _ = None

-- the number that some bytes spell, or 0
abbrev pub spelled_or_zero : List ℕ → ℕ
spelled_or_zero bytes = if is_number bytes then number_of bytes else 0

-- the seats of a line `total T`, or 0
abbrev pub told_total : List ℕ → ℕ
told_total line = if bytes_eq (before_first (λ b. nat_eq b 32) line) (codes "total") then spelled_or_zero (after_first (λ b. nat_eq b 32) line) else 0

-- a line of another kind, by its first word
abbrev pub is_other : List (List ℕ) → Bool
is_other [] = false
is_other (word ∷ rest) = list_any (bytes_eq word) (codes "total" ∷ codes "list" ∷ codes "vacant" ∷ codes "single" ∷ codes "open" ∷ [])

abbrev pub is_line : List ℕ → Bool
is_line line = is_some (told_party (words line)) || is_other (words line)

-- a text of such lines
abbrev pub is_table : List ℕ → Bool
is_table text = nat_lt 0 (length (lines text)) && list_all is_line (lines text)

-- the parties of lines, by their names and their seats
abbrev pub told_parties : List (List ℕ) → List (List ℕ × ℕ)
told_parties ls = filter_map (λ line. told_party (words line)) ls

-- the seats of all, in the first line
abbrev pub total_told : List (List ℕ) → ℕ
total_told [] = 0
total_told (line ∷ rest) = told_total line

-- what the seats of all are more than those of the parties: the seats of winners without one
abbrev pub others_told : List (List ℕ) → ℕ
others_told ls = total_told ls - capped (sum_by (λ p. p.1) (told_parties ls))

-- the parties, and without a name those who sit without a party
abbrev pub with_others : List (List ℕ) → List (List ℕ × ℕ)
with_others ls = told_parties ls ++ ([], others_told ls) ∷ []

-- those of a table
abbrev pub table_parties : List ℕ → List (List ℕ × ℕ)
table_parties text = with_others (lines text)

abbrev pub party_told : EarlierParty → List ℕ × ℕ
party_told p = (p.name.now, p.seats)

-- ---- what is read

-- a text is a seat table, and these are its parties
abbrev pub IsEarlier : List ℕ → List EarlierParty → Type 0
IsEarlier text found = (is_table text ≡ true) × (map party_told found ≡ table_parties text)

-- no text was read, and there are none; or these are those of the text
abbrev pub IsEarlierIn : Option Bytes → Option (Vec EarlierParty) → Type 0
IsEarlierIn None None = Unit {0}
IsEarlierIn (Some (Whole text)) (Some found) = IsEarlier text.items found.items
IsEarlierIn _ _ = ⊥

-- ---- what is refused

-- a text is no earlier seat table
abbrev pub is_no_table : List ℕ → Bool
is_no_table text = not (is_utf8 text && is_table text)

-- an earlier table that was read is refused: one that is too long, and a text that is none
abbrev pub is_refused_in : Option Bytes → Bool
is_refused_in None = false
is_refused_in (Some TooLong) = true
is_refused_in (Some (Whole text)) = is_no_table text.items
