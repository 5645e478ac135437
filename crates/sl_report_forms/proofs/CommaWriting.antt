-- How a writer adds records.
use Rattle.std.proofs.Common.{◌≡◌, ◌≢◌, ◌++◌, ◌∷◌, ◌∙◌, [], ℕ, List, true, false, refl, sym, append_assoc}
use Rattle.std.proofs.lemmas.List.{append-nil}
use Rattle.std.specs.Global.{Vec}
use Rattle.csv.specs.Writing.{default_writer, escaped, field_text, fields_text, fields_written, has_written, is_blank, row_text, with_flexible, writer_setup}
use Rattle.csv.specs.declared.writer.QuoteStyle.TheVariants as style
use Rattle.csv.specs.declared.writer.Writer.{Writer}
use Rattle.csv.specs.declared.writer.WriterBuilder.{WriterBuilder}
use Rattle.sl_report_forms.specs.CommaForm.{AddsRecords, records_after, sheet_records, written}
use Rattle.sl_report_forms.specs.declared.names.Names.{Names}
use Rattle.sl_report_forms.specs.declared.sheet.Sheet.{Sheet}

-- records of any lengths are written as others are
abbrev any_lengths : WriterBuilder
any_lengths = with_flexible default_writer true

escaped-same : (x : List ℕ) → escaped any_lengths x ≡ escaped default_writer x
unfolding escaped
escaped-same [] = refl
escaped-same (b ∷ x) = rw (escaped-same x) refl

field-same : (x : List ℕ) → field_text any_lengths x ≡ field_text default_writer x
field-same x = rw (escaped-same x) refl

fields-same : (xs : List (List ℕ)) → fields_text any_lengths xs ≡ fields_text default_writer xs
unfolding fields_text
fields-same [] = refl
fields-same (x ∷ xs) = rw (field-same x, fields-same xs) refl

blank-same : (xs : List (List ℕ)) → is_blank any_lengths xs ≡ is_blank default_writer xs
unfolding is_blank
blank-same [] = refl
blank-same (x ∷ []) = rw (field-same x) refl
blank-same (x ∷ y ∷ xs) = refl

row-same : (xs : List (List ℕ)) → row_text any_lengths xs ≡ row_text default_writer xs
row-same [] = rw (blank-same []) refl
row-same (x ∷ xs) = rw (field-same x, fields-same xs, blank-same (x ∷ xs)) refl

-- a record that was written
pub adds-one : (w v : Writer (Vec ℕ)) (fields : List (List ℕ))
    → (fields_written w ≡ 0 → has_written w ≡ false → (writer_setup w).style ≢ style.NonNumeric → written v ≡ written w ++ row_text (writer_setup w) fields)
    → fields_written v ≡ 0 → has_written v ≡ false → writer_setup v ≡ writer_setup w → AddsRecords w v (fields ∷ [])
adds-one w v fields bytes ended clean setup at =
    let text = bytes at.fields at.clean (rw at.setup (λ e. cc e)) in (
      record { setup = setup ∙ at.setup; fields = ended; clean = clean },
      rw (append-nil (row_text default_writer fields)) (rw (at.setup, row-same fields) at text),
    )

-- one more sheet
pub records-more : (n : Names) (before xs : List Sheet) (x : Sheet) → records_after n before (xs ++ x ∷ []) ≡ records_after n before xs ++ sheet_records n (before ++ xs) x
records-more n before [] x = rw (append-nil before) (append-nil (sheet_records n before x))
records-more n before (y ∷ xs) x =
    rw (records-more n (before ++ y ∷ []) xs x, append_assoc before (y ∷ []) xs)
    (sym (append_assoc (sheet_records n before y) (records_after n (before ++ y ∷ []) xs) (sheet_records n (before ++ y ∷ xs) x)))
