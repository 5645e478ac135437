-- What is shown of sheets as aligned text: of each the title, a line of the titles of its columns, and a line for each row.
use Rattle.std.specs.Prelude.{◌≡◌, ◌⊎◌, ◌<◌, ◌≤◌, ℕ, Bool, false, not, nat_le, nat_lt, ◌&&◌, ◌||◌, ◌+◌, ◌-◌, List, [], ◌∷◌, ◌++◌, String, Vec, codes, if◌then◌else◌, length, map, max, option_map, replicate, slice_get, string_bytes, take, unwrap_or}
use Rattle.std.specs.Char.{encode_utf8}
use Rattle.std.specs.List.{enumerate_from, flat_map, fold, sum_by, zip}
use Rattle.std.specs.Str.{chars, encode_utf8_all, trim_end}
use Rattle.unicode_width.specs.Width.{char_width, str_width}
use Rattle.sl_report_forms.specs.declared.sheet.Look.TheVariants as look
use Rattle.sl_report_forms.specs.declared.sheet.Look.{Look}
use Rattle.sl_report_forms.specs.declared.shown.ShownColumn.{ShownColumn}
use Rattle.sl_report_forms.specs.declared.text_form.Column.{Column}
use Rattle.sl_report_forms.specs.MarkdownForm.{joined}
use Rattle.sl_report_forms.specs.Shown.{View}

-- the columns of a terminal that a text takes, and those of a character by itself, where one that controls takes none
abbrev pub width_of : List ℕ → ℕ
width_of text = str_width false (chars text)

abbrev pub char_columns : ℕ → ℕ
char_columns c = unwrap_or (char_width false c) 0

-- the longest begin of characters that takes fewer than so many columns
abbrev pub begin_under : ℕ → List ℕ → List ℕ
begin_under most [] = []
begin_under most (c ∷ cs) = if nat_lt (char_columns c) most then c ∷ begin_under (most - char_columns c) cs else []

-- a begin that is empty or takes fewer columns than so many, where each longer one takes at least as many
pub record IsLongestBegin (most : ℕ) (cs begin : List ℕ) : Type 0 where
  pub begins : begin ≡ take (length begin) cs
  pub fits : (begin ≡ []) ⊎ (sum_by char_columns begin < most)
  pub longest : (n : ℕ) → length begin < n → n ≤ length cs → most ≤ sum_by char_columns (take n cs)

-- a text that takes more columns than so many is cut: that begin, and `…` after it
abbrev pub cut_to : ℕ → List ℕ → List ℕ
cut_to most text = if nat_lt most (width_of text) then encode_utf8_all (begin_under most (chars text)) ++ encode_utf8 0x2026 else text

-- texts are cut to the columns that their look has, and no number is cut
abbrev pub cut_text : Look → List ℕ → List ℕ
cut_text (look.Text most) text = cut_to most text
cut_text look.Hidden text = text
cut_text look.Number text = text

abbrev pub cut_row : List ShownColumn → List (List ℕ) → List (List ℕ)
cut_row columns row = map (λ p. cut_text p.0.look p.1) (zip columns row)

-- the line of the titles, and one for each row
abbrev pub lines_in : {Z : Type 0} → List (String Z) → List (Vec (String Z) Z) → List (List (List ℕ))
lines_in titles rows = map string_bytes titles ∷ map (λ row. map string_bytes row.items) rows

-- the width of the text at a place of a line, if it has one there
abbrev pub width_in : ℕ → List (List ℕ) → ℕ
width_in place line = unwrap_or (option_map width_of (slice_get line place)) 0

-- the width of the widest text at a place of the lines
abbrev pub widest : ℕ → List (List (List ℕ)) → ℕ
widest place lines = fold max 0 (map (width_in place) lines)

-- a column is as wide as the widest text at its place of the lines
abbrev pub column_in : List (List (List ℕ)) → ℕ × ShownColumn → Column
column_in lines p = record { look = p.1.look; width = widest p.0 lines }

abbrev pub columns_of : List ShownColumn → List (List (List ℕ)) → List Column
columns_of columns lines = map (column_in lines) (enumerate_from 0 columns)

-- the width of columns with two blanks between them
abbrev pub table_width : List Column → ℕ
table_width columns = sum_by (λ column. column.width + 2) columns - 2

abbrev pub fits : ℕ → List Column → Bool
fits most columns = nat_le (table_width columns) most

-- numbers stand at the right, after these blanks, and texts at the left
abbrev pub placed : Look → List ℕ → List ℕ → List ℕ
placed look.Number blanks text = blanks ++ text
placed look.Hidden blanks text = text ++ blanks
placed (look.Text width) blanks text = text ++ blanks

abbrev pub in_column : Column → List ℕ → List ℕ
in_column column text = placed column.look (replicate (column.width - width_of text) 32) text

-- texts in their columns, and two blanks after each
abbrev pub padded_line : List Column → List (List ℕ) → List ℕ
padded_line columns texts = flat_map (λ p. in_column p.0 p.1 ++ codes "  ") (zip columns texts)

-- a line ends without the blanks at its end
abbrev pub aligned_line : List Column → List (List ℕ) → List ℕ
aligned_line columns texts = trim_end (padded_line columns texts) ++ codes "\n"

abbrev pub whole_lines : View → List (List (List ℕ))
whole_lines v = v.titles ∷ v.rows

-- titles are not cut
abbrev pub cut_lines : View → List (List (List ℕ))
cut_lines v = v.titles ∷ map (cut_row v.columns) v.rows

-- no text is cut in a table of up to 80 columns, nor in one of up to 100 that would have more than 80 with its texts cut
abbrev pub is_whole : View → Bool
is_whole v = let columns = columns_of v.columns (whole_lines v) in fits 80 columns || (fits 100 columns && not (fits 80 (columns_of v.columns (cut_lines v))))

abbrev pub lines_of : View → List (List (List ℕ))
lines_of v = if is_whole v then whole_lines v else cut_lines v

abbrev pub aligned_table : View → List ℕ
aligned_table v = flat_map (aligned_line (columns_of v.columns (lines_of v))) (lines_of v)

abbrev pub aligned_block : View → List ℕ
aligned_block v = v.title ++ codes "\n" ++ aligned_table v

-- their blocks, with an empty line between them
abbrev pub aligned_of : List View → List ℕ
aligned_of views = joined (map aligned_block views)
