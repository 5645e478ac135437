-- Sheets as comma-separated values: their records, and the text of these.
use Rattle.std.specs.Prelude.{◌≡◌, ℕ, Bool, true, false, List, [], ◌∷◌, ◌++◌, map, if◌then◌else◌}
use Rattle.std.specs.Global.{Vec}
use Rattle.std.specs.List.{flat_map, list_any}
use Rattle.std.specs.Str.{bytes_eq}
use Rattle.csv.specs.Reading.{default_config, records}
use Rattle.csv.specs.Writing.{default_writer, fields_written, has_written, row_text, with_flexible, writer_pending, writer_setup, writer_under}
use Rattle.csv.specs.declared.writer.Writer.{Writer}
use Rattle.sl_report_forms.specs.Heads.{head_key}
use Rattle.sl_report_forms.specs.CellTexts.{key_text}
use Rattle.sl_report_forms.specs.declared.cell.Cell.{Cell}
use Rattle.sl_report_forms.specs.declared.names.Names.{Names}
use Rattle.sl_report_forms.specs.declared.sheet.Sheet.{Sheet}

-- ---- the records of sheets

-- the key of a sheet, and those of its columns
abbrev pub heads_record : Sheet → List (List ℕ)
heads_record s = s.key.now ∷ map head_key s.heads.items

-- the key of its sheet, and the texts of the cells
abbrev pub row_record : Names → List ℕ → List Cell → List (List ℕ)
row_record names key cells = key ∷ map (key_text names) cells

abbrev pub rows_records : Names → Sheet → List (List (List ℕ))
rows_records names s = map (λ r. row_record names s.key.now r.items) s.rows.items

abbrev pub has_key : List ℕ → Sheet → Bool
has_key key s = bytes_eq s.key.now key

-- the records of a sheet after others: its heads where none of those has its key, and its rows
abbrev pub sheet_records : Names → List Sheet → Sheet → List (List (List ℕ))
sheet_records names before s = (if list_any (has_key s.key.now) before then [] else heads_record s ∷ []) ++ rows_records names s

-- the records of further sheets after others
abbrev pub records_after : Names → List Sheet → List Sheet → List (List (List ℕ))
records_after names before [] = []
records_after names before (s ∷ sheets) = sheet_records names before s ++ records_after names (before ++ s ∷ []) sheets

abbrev pub comma_records : Names → List Sheet → List (List (List ℕ))
comma_records names sheets = records_after names [] sheets

-- ---- their text

-- what `csv` writes of records by default
abbrev pub records_text : List (List (List ℕ)) → List ℕ
records_text rows = flat_map (row_text default_writer) rows

-- the text is what `csv` writes of the records of the sheets; and what it reads in the text, of any lengths, are these records
pub record IsCommaText (names : Names) (sheets : List Sheet) (text : List ℕ) : Type 0 where
  pub written : text ≡ records_text (comma_records names sheets)
  pub read : records default_config text ≡ comma_records names sheets

-- ---- a writer of records

-- the bytes that were written, also those that the writer has not passed on
abbrev pub written : Writer (Vec ℕ) → List ℕ
written w = (writer_under w).items ++ writer_pending w

-- it writes as `csv` does by default, but records of any lengths, and no record has begun
pub record IsBetweenRecords (w : Writer (Vec ℕ)) : Type 0 where
  pub setup : writer_setup w ≡ with_flexible default_writer true
  pub fields : fields_written w ≡ 0
  pub clean : has_written w ≡ false

-- a writer that stood between records has written these, and stands between records again
abbrev pub AddsRecords : Writer (Vec ℕ) → Writer (Vec ℕ) → List (List (List ℕ)) → Type 0
AddsRecords before after rows =
    IsBetweenRecords before → IsBetweenRecords after × (written after ≡ written before ++ records_text rows)
