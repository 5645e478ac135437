-- Sheets as tables: the key, the columns with what stands over them, and what stands in the cells of each row.
use Rattle.std.specs.Prelude.{ℕ, List, [], ◌++◌, map, string_bytes}
use denote.Ref.{Bor}
use Rattle.sl_report_forms.specs.Cells.{Content, content_of}
use Rattle.sl_report_forms.specs.declared.cell.Cell.{Cell}
use Rattle.sl_report_forms.specs.declared.sheet.Head.TheVariants as head
use Rattle.sl_report_forms.specs.declared.sheet.Head.{Head}
use Rattle.sl_report_forms.specs.declared.sheet.Look.{Look}
use Rattle.sl_report_forms.specs.declared.sheet.Sheet.{Sheet}

-- a column: its key, what stands over it in English and in German, and its look; or a word over numbers, which is their key
pub data Column : Type 0 where
  column : (key english german : List ℕ) → Look → Column
  under : List ℕ → Column

pub record Table : Type 0 where
  pub key : List ℕ
  pub columns : List Column
  pub rows : List (List Content)

abbrev pub column_of : Head → Column
column_of (head.Column c) = column c.0.now c.1.now c.2.now c.3
column_of (head.Word w) = under (string_bytes w)

-- the columns of a kind of tables, as the code lists them
abbrev pub heads_of : List (Bor (List ℕ) × Bor (List ℕ) × Bor (List ℕ) × Look) → List Column
heads_of columns = map (λ c. column c.0.now c.1.now c.2.now c.3) columns

abbrev pub contents_of : List Cell → List Content
contents_of cells = map content_of cells

abbrev pub table_of : Sheet → Table
table_of s = record {
  key = s.key.now;
  columns = map column_of s.heads.items;
  rows = map (λ r. contents_of r.items) s.rows.items;
}

-- a table with further rows
abbrev pub with_rows : Table → List (List Content) → Table
with_rows t rows = record t { rows = t.rows ++ rows }

-- a table with further columns
abbrev pub with_heads : Table → List Column → Table
with_heads t columns = record t { columns = t.columns ++ columns }

-- a table without rows
abbrev pub blank_table : List ℕ → List Column → Table
blank_table key columns = record { key = key; columns = columns; rows = [] }
