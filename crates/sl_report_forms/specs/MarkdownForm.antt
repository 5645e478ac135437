-- What is shown of sheets as Markdown: the line of a fault as a block of code, and for each sheet a heading and a table.
use Rattle.std.specs.Prelude.{◌≡◌, ◌⊎◌, ℕ, Bool, true, false, ◌||◌, ◌==◌, Option, Some, None, List, [], ◌∷◌, ◌++◌, map, option_map, codes, if◌then◌else◌}
use Rattle.std.specs.Char.{char_set_contains}
use Rattle.std.specs.List.{flat_map, join_by}
use Rattle.sl_report_forms.specs.declared.sheet.Look.TheVariants as look
use Rattle.sl_report_forms.specs.declared.sheet.Look.{Look}
use Rattle.sl_report_forms.specs.declared.shown.ShownColumn.{ShownColumn}
use Rattle.sl_report_forms.specs.Shown.{View}

-- what Markdown may read as a mark
abbrev pub is_mark : ℕ → Bool
is_mark c = char_set_contains (codes "\\`*_[<&|~$#") c

abbrev pub is_line_end : ℕ → Bool
is_line_end c = c == 10 || c == 13

abbrev pub on_one_line : ℕ → ℕ
on_one_line c = if is_line_end c then 32 else c

-- a mark stands after a backslash, and a blank for the end of a line
abbrev pub markdown_byte : ℕ → List ℕ
markdown_byte c = if is_mark c then 92 ∷ c ∷ [] else on_one_line c ∷ []

abbrev pub markdown_escaped : List ℕ → List ℕ
markdown_escaped bytes = flat_map markdown_byte bytes

abbrev pub markdown_cell : List ℕ → List ℕ
markdown_cell bytes = codes " " ++ markdown_escaped bytes ++ codes " |"

abbrev pub markdown_line : List (List ℕ) → List ℕ
markdown_line texts = codes "|" ++ flat_map markdown_cell texts ++ codes "\n"

-- at which side the texts of a column stand
abbrev pub side_of : Look → List ℕ
side_of look.Number = codes "---:|"
side_of look.Hidden = codes "---|"
side_of (look.Text width) = codes "---|"

abbrev pub markdown_sides : List ShownColumn → List ℕ
markdown_sides columns = codes "|" ++ flat_map (λ column. side_of column.look) columns ++ codes "\n"

abbrev pub markdown_table : View → List ℕ
markdown_table v = markdown_line v.titles ++ markdown_sides v.columns ++ flat_map markdown_line v.rows

abbrev pub markdown_block : View → List ℕ
markdown_block v = codes "## " ++ markdown_escaped v.title ++ codes "\n\n" ++ markdown_table v

abbrev pub fault_blocks : Option (List ℕ) → List (List ℕ)
fault_blocks None = []
fault_blocks (Some line) = (codes "    " ++ line ++ codes "\n") ∷ []

-- blocks have an empty line between them
abbrev pub joined : List (List ℕ) → List ℕ
joined blocks = join_by (λ block. block) (codes "\n") blocks

abbrev pub markdown_of : Option (List ℕ) → List View → List ℕ
markdown_of line views = joined (fault_blocks line ++ map markdown_block views)

-- the text is what this makes of the one before, or memory has run out
abbrev pub Becomes : Option (List ℕ) → Option (List ℕ) → (List ℕ → List ℕ) → Type 0
Becomes before after f = (after ≡ option_map f before) ⊎ (after ≡ None)

-- an empty line after a text that has begun
abbrev pub parted : List ℕ → List ℕ
parted [] = []
parted (c ∷ text) = (c ∷ text) ++ codes "\n"

-- a text with further blocks
abbrev pub with_blocks : List (List ℕ) → List ℕ → List ℕ
with_blocks blocks [] = joined blocks
with_blocks blocks (c ∷ text) = joined ((c ∷ text) ∷ blocks)

-- a reader that drops each backslash and keeps what follows it; `true` where one has just been dropped
abbrev pub read_after : Bool → List ℕ → List ℕ
read_after is_kept [] = []
read_after true (c ∷ rest) = c ∷ read_after false rest
read_after false (c ∷ rest) = if 92 == c then read_after true rest else c ∷ read_after false rest
