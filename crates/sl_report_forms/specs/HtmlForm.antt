-- What is shown of sheets as a page of HTML: a section with a title and a table for each.
use Rattle.std.specs.Prelude.{ℕ, Bool, ◌||◌, ◌==◌, Option, Some, None, List, [], ◌∷◌, ◌++◌, option_and_then, slice_get, codes, if◌then◌else◌}
use Rattle.std.specs.List.{filter_map, flat_map, zip}
use Rattle.std.specs.Str.{bytes_eq}
use Rattle.sl_explain_texts.specs.declared.language.Language.TheVariants.{English, German}
use Rattle.sl_explain_texts.specs.declared.language.Language.{Language}
use Rattle.sl_report_forms.specs.declared.html_form.TheConstants.{STYLE}
use Rattle.sl_report_forms.specs.declared.html_form.Tag.TheVariants as tag
use Rattle.sl_report_forms.specs.declared.html_form.Tag.{Tag}
use Rattle.sl_report_forms.specs.declared.sheet.Look.TheVariants as look
use Rattle.sl_report_forms.specs.declared.sheet.Look.{Look}
use Rattle.sl_report_forms.specs.declared.shown.ShownColumn.{ShownColumn}
use Rattle.sl_report_forms.specs.Shown.{View}

-- an entity stands for what HTML would read as markup
abbrev pub html_byte : ℕ → List ℕ
html_byte c =
    if c == 38 then codes "&amp;" else if c == 60 then codes "&lt;" else if c == 62 then codes "&gt;" else if c == 34 then codes "&quot;" else c ∷ []

abbrev pub html_escaped : List ℕ → List ℕ
html_escaped bytes = flat_map html_byte bytes

abbrev pub tag_begin : Tag → List ℕ
tag_begin tag.Title = codes "<th scope=\"col\""
tag_begin tag.First = codes "<th scope=\"row\""
tag_begin tag.Other = codes "<td"

abbrev pub class_of : Look → List ℕ
class_of look.Number = codes " class=\"number\">"
class_of look.Hidden = codes ">"
class_of (look.Text width) = codes ">"

abbrev pub tag_end : Tag → List ℕ
tag_end tag.Title = codes "</th>"
tag_end tag.First = codes "</th>"
tag_end tag.Other = codes "</td>"

-- a cell: its column and its text
abbrev pub html_cell : Tag → ShownColumn × List ℕ → List ℕ
html_cell t cell = tag_begin t ++ class_of cell.0.look ++ html_escaped cell.1 ++ tag_end t

-- the tag of the cell at a place
abbrev pub tag_at : Tag → Tag → ℕ → Tag
tag_at t u place = if place == 0 then t else u

-- cells of which the first has a tag of its own
abbrev pub html_cells : Tag → Tag → List (ShownColumn × List ℕ) → List ℕ
html_cells t u [] = []
html_cells t u (cell ∷ cells) = html_cell t cell ++ flat_map (html_cell u) cells

abbrev pub html_row : Tag → Tag → List ShownColumn → List (List ℕ) → List ℕ
html_row t u columns texts = codes "<tr>" ++ html_cells t u (zip columns texts) ++ codes "</tr>\n"

abbrev pub html_table : View → List ℕ
html_table v =
    codes "<div class=\"table\">\n<table>\n<thead>\n" ++ html_row tag.Title tag.Title v.columns v.titles ++ codes "</thead>\n<tbody>\n"
    ++ flat_map (html_row tag.First tag.Other v.columns) v.rows ++ codes "</tbody>\n</table>\n</div>\n"

abbrev pub html_section : View → List ℕ
html_section v = codes "<section>\n<h2>" ++ html_escaped v.title ++ codes "</h2>\n" ++ html_table v ++ codes "</section>\n"

-- the law of a sheet, if it is the one that names it: the first text
abbrev pub law_in : View → Option (List ℕ)
law_in v = if bytes_eq v.key (codes "law") then option_and_then (λ row. slice_get row 0) (slice_get v.rows 0) else None

-- the first law that a sheet names
abbrev pub law_of : List View → Option (List ℕ)
law_of views = slice_get (filter_map law_in views) 0

-- a title, with a law if there is one
abbrev pub with_law : List ℕ → Option (List ℕ) → List ℕ
with_law title None = title
with_law title (Some law) = title ++ codes ": " ++ law

abbrev pub language_code : Language → List ℕ
language_code English = codes "en"
language_code German = codes "de"

-- the head of a page in the language of this code
abbrev pub html_head : List ℕ → List ℕ → List ℕ
html_head code title =
    codes "<!DOCTYPE html>\n<html lang=\"" ++ code ++ codes "\">\n<head>\n<meta charset=\"utf-8\">\n"
    ++ codes "<meta name=\"viewport\" content=\"width=device-width, initial-scale=1\">\n" ++ codes "<title>" ++ html_escaped title
    ++ codes "</title>\n<style>\n" ++ STYLE.now ++ codes "</style>\n</head>\n"

abbrev pub html_heading : List ℕ → List ℕ
html_heading title = codes "<h1>" ++ html_escaped title ++ codes "</h1>\n"

-- the line of a fault, if there is one
abbrev pub html_fault : Option (List ℕ) → List ℕ
html_fault None = []
html_fault (Some line) = codes "<p><code>" ++ html_escaped line ++ codes "</code></p>\n"

-- a page under this title
abbrev pub html_page : Language → List ℕ → Option (List ℕ) → List View → List ℕ
html_page language title line views =
    let titled = with_law title (law_of views) in
    html_head (language_code language) titled ++ codes "<body>\n" ++ html_heading titled ++ html_fault line ++ flat_map html_section views
    ++ codes "</body>\n</html>\n"

-- what HTML reads as markup
abbrev pub is_markup : ℕ → Bool
is_markup c = c == 60 || (c == 62 || c == 34)

-- what an entity stands for, by its name
abbrev pub entity : List ℕ → ℕ
entity name = if bytes_eq name (codes "amp") then 38 else if bytes_eq name (codes "lt") then 60 else if bytes_eq name (codes "gt") then 62 else 34

-- a reader of the four entities; after `&`, the name so far
abbrev pub read_entities : Option (List ℕ) → List ℕ → List ℕ
read_entities name [] = []
read_entities None (c ∷ rest) = if c == 38 then read_entities (Some []) rest else c ∷ read_entities None rest
read_entities (Some name) (c ∷ rest) = if c == 59 then entity name ∷ read_entities None rest else read_entities (Some (name ++ c ∷ [])) rest
