-- What a person sees of sheets: of each its title, the columns that are not hidden and in which a row has something, their titles, and the texts of each row.
use Rattle.std.specs.Prelude.{ℕ, Bool, true, false, not, ◌&&◌, ◌==◌, List, Option, Some, None, length, map, slice_get, string_bytes}
use Rattle.std.specs.List.{enumerate_from, filter, filter_map, list_any}
use Rattle.sl_explain_texts.specs.declared.language.Language.{Language}
use Rattle.sl_report_forms.specs.CellTexts.{shown_text}
use Rattle.sl_report_forms.specs.Heads.{head_look, head_text, title_text}
use Rattle.sl_report_forms.specs.declared.cell.Cell.TheVariants as cell
use Rattle.sl_report_forms.specs.declared.cell.Cell.{Cell}
use Rattle.sl_report_forms.specs.declared.names.Names.{Names}
use Rattle.sl_report_forms.specs.declared.sheet.Head.{Head}
use Rattle.sl_report_forms.specs.declared.sheet.Look.TheVariants as look
use Rattle.sl_report_forms.specs.declared.sheet.Look.{Look}
use Rattle.sl_report_forms.specs.declared.sheet.Sheet.{Sheet}
use Rattle.sl_report_forms.specs.declared.shown.Shown.{Shown}
use Rattle.sl_report_forms.specs.declared.shown.ShownColumn.{ShownColumn}

abbrev pub is_hidden : Look → Bool
is_hidden look.Hidden = true
is_hidden (look.Text width) = false
is_hidden look.Number = false

-- whether something stands in a cell, if there is one
abbrev pub is_filled : Option Cell → Bool
is_filled None = false
is_filled (Some cell.Empty) = false
is_filled (Some _) = true

-- whether a row of a sheet has something at a place
abbrev pub has_text : Sheet → ℕ → Bool
has_text s place = list_any (λ row. is_filled (slice_get row.items place)) s.rows.items

-- a column is shown that is not hidden, and in which a row has something
abbrev pub is_shown : Sheet → ShownColumn → Bool
is_shown s column = not (is_hidden column.look) && has_text s column.place

abbrev pub place_of : ℕ × Head → ShownColumn
place_of h = record { place = h.0; look = head_look h.1 }

abbrev pub shown_columns : Sheet → List ShownColumn
shown_columns s = filter (is_shown s) (map place_of (enumerate_from 0 s.heads.items))

-- what stands in these columns
abbrev pub in_columns : {A : Type 0} → List ShownColumn → List A → List A
in_columns columns xs = filter_map (λ column. slice_get xs column.place) columns

abbrev pub titles_in : Language → List ShownColumn → List Head → List (List ℕ)
titles_in language columns heads = map (head_text language) (in_columns columns heads)

abbrev pub texts_in : Language → Names → List ShownColumn → List Cell → List (List ℕ)
texts_in language names columns cells = map (shown_text language names) (in_columns columns cells)

-- what is shown: the key and the title of the sheet, the columns, their titles, and the texts of each row
pub record View : Type 0 where
  pub key : List ℕ
  pub title : List ℕ
  pub columns : List ShownColumn
  pub titles : List (List ℕ)
  pub rows : List (List (List ℕ))

abbrev pub view_of : Language → Names → Sheet → View
view_of language names s = let columns = shown_columns s in record {
  key = s.key.now;
  title = title_text language names s.title;
  columns = columns;
  titles = titles_in language columns s.heads.items;
  rows = map (λ row. texts_in language names columns row.items) s.rows.items;
}

-- the same of what the program made
abbrev pub view_in : Shown → View
view_in shown = record {
  key = shown.key.now;
  title = string_bytes shown.title;
  columns = shown.columns.items;
  titles = map string_bytes shown.titles.items;
  rows = map (λ row. map string_bytes row.items) shown.rows.items;
}

-- a sheet is shown that has a column which is
abbrev pub has_view : Sheet → Bool
has_view s = not (length (shown_columns s) == 0)

-- what is shown of those
abbrev pub views_of : Language → Names → List Sheet → List View
views_of language names sheets = map (view_of language names) (filter has_view sheets)
