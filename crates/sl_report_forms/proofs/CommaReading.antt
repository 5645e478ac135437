-- What `csv` reads in the text of the records of sheets is these records.
use Rattle.std.proofs.Common.{◌≡◌, ◌+◌, ◌≤◌, ◌++◌, ◌∷◌, ◌∙◌, [], ℕ, List, zero, suc, length, map, refl, ap, arith, length-append}
use Rattle.std.proofs.lemmas.List.{map-append}
use Rattle.std.specs.Prelude.{true, false, Bool, if◌then◌else◌}
use Rattle.std.specs.List.{list_any}
use Rattle.std.specs.Global.{Vec}
use Rattle.csv.specs.Machine.{next_record}
use Rattle.csv.specs.Reading.{default_config, records, records_from}
use Rattle.csv.specs.Writing.{read_back}
use Rattle.csv.specs.declared.parser.State.TheVariants as st
use Rattle.csv.proofs.RoundTrip.{read-write}
use Rattle.sl_report_forms.specs.CommaForm.{IsCommaText, comma_records, has_key, heads_record, records_after, records_text, row_record, rows_records, sheet_records}
use Rattle.sl_report_forms.specs.declared.cell.Cell.{Cell}
use Rattle.sl_report_forms.specs.declared.names.Names.{Names}
use Rattle.sl_report_forms.specs.declared.sheet.Sheet.{Sheet}

-- as many records as there are, or more
read-some : (n : ℕ) (rows : List (List (List ℕ))) → length rows ≤ n → records_from default_config n st.StartRecord (records_text rows) ≡ map read_back rows
unfolding records_from next_record
read-some zero [] h = refl
read-some (suc n) [] h = refl
read-some zero (row ∷ rows) h = absurd (omega arith)
read-some (suc n) (row ∷ rows) h = rw (read-write row (records_text rows)) (ap (λ (t : List (List (List ℕ))). read_back row ∷ t) (read-some n rows (omega arith)))

-- the text of a record has a byte
text-length : (rows : List (List (List ℕ))) → length rows ≤ length (records_text rows)
text-length [] = omega arith
text-length (row ∷ rows) = let more = text-length rows in simp length-append (omega arith)

read-all : (rows : List (List (List ℕ))) → records default_config (records_text rows) ≡ map read_back rows
read-all rows = let enough = text-length rows in read-some (length (records_text rows) + 1) rows (omega arith)

-- no record of a sheet is without a field
rows-back : (n : Names) (key : List ℕ) (rows : List (Vec Cell)) → map read_back (map (λ r. row_record n key r.items) rows) ≡ map (λ r. row_record n key r.items) rows
rows-back n key [] = refl
rows-back n key (row ∷ rows) = rw (rows-back n key rows) refl

sheet-back : (n : Names) (b : Bool) (s : Sheet)
    → map read_back ((if b then [] else heads_record s ∷ []) ++ rows_records n s) ≡ (if b then [] else heads_record s ∷ []) ++ rows_records n s
sheet-back n true s = rows-back n s.key.now s.rows.items
sheet-back n false s = rw (rows-back n s.key.now s.rows.items) refl

records-back : (n : Names) (before sheets : List Sheet) → map read_back (records_after n before sheets) ≡ records_after n before sheets
records-back n before [] = refl
records-back n before (s ∷ sheets) =
    rw (map-append read_back (sheet_records n before s) (records_after n (before ++ s ∷ []) sheets), sheet-back n (list_any (has_key s.key.now) before) s, records-back n (before ++ s ∷ []) sheets) refl

pub is-comma_text : (n : Names) (sheets : List Sheet) (text : List ℕ) → text ≡ records_text (comma_records n sheets) → IsCommaText n sheets text
is-comma_text n sheets text e = record {
  written = e;
  read = ap (records default_config) e ∙ read-all (comma_records n sheets) ∙ records-back n [] sheets;
}
