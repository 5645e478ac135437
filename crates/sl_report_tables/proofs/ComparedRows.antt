-- The tables beside the first rulebook, where there is one.
use Rattle.std.proofs.Common.{◌≡◌, ◌∙◌, ◌<◌, ◌-◌, List, [], ◌∷◌, Some, ap, arith, drop, length, map, refl, string_bytes, sym, take}
use Rattle.std.specs.List.{flat_map}
use Rattle.std.specs.Prelude.{None, Option, codes, false, is_some, slice_get, true, unwrap_or}
use Rattle.sl_report_forms.specs.Cells.{Content}
use Rattle.sl_report_forms.specs.Tables.{Column, Table, blank_table, with_heads, with_rows, under}
use Rattle.sl_report_tables.proofs.SeatedBooks.{all_others}
use Rattle.sl_report_tables.specs.Columns.{listed}
use Rattle.sl_report_tables.specs.Compare.{change_row, changes_table, compared, rows_from, seats_row, seats_table}
use Rattle.sl_report_tables.specs.declared.changes.TheConstants.{EACH}
use Rattle.sl_report_tables.specs.declared.compare.Judged.{Judged}
use Rattle.sl_report_tables.specs.declared.compare.TheConstants.{COMPARE}
use Rattle.sl_law_meaning.specs.declared.count.Counted.{Counted}
use Rattle.sl_law_meaning.specs.returns.Election.{Election}

abbrev blank_changes : Table
blank_changes = blank_table (codes "changes") (listed COMPARE)

-- a column for each book
abbrev heads : List Judged → List Column
heads books = map (λ j. under (string_bytes j.word)) books

abbrev pub blank_seats : Table
blank_seats = blank_table (codes "seats") (listed EACH)

all_rows : (o : Option Counted) (rows : List (List Content)) → is_some o ≡ true → rows_from o rows ≡ rows
all_rows None rows counted = cc
all_rows (Some c) rows counted = refl

none_rows : (o : Option Counted) (rows : List (List Content)) → is_some o ≡ false → rows_from o rows ≡ []
none_rows None rows none = refl
none_rows (Some c) rows none = cc

-- a table with the columns of the books after the first one
pub with_others : (books : List Judged) (blank t : Table) → blank ≡ blank_changes → t ≡ with_heads blank (heads (take (length books - 1) (drop 1 books))) →
    t ≡ with_heads blank_changes (heads (drop 1 books))
with_others books blank t is more = more ∙ ap (λ b. with_heads b (heads (take (length books - 1) (drop 1 books)))) is ∙ ap (λ js. with_heads blank_changes (heads js)) (all_others books)

module _ (e : Election) where
  pub no_count : (first : Judged) (books : List Judged) → slice_get books 0 ≡ Some first → 1 < length books → is_some first.counted ≡ false →
      with_heads blank_changes (heads (drop 1 books)) ≡ changes_table e books
  no_count first [] at more none = absurd (omega (arith, more))
  no_count first (j ∷ []) at more none = absurd (omega (arith, more))
  no_count first (j ∷ k ∷ others) at more none =
      ap (with_rows (with_heads blank_changes (heads (k ∷ others))))
      (sym (none_rows j.counted (map (change_row e j (k ∷ others)) (compared e)) (ap (λ o. is_some (unwrap_or o j).counted) at ∙ none)))

  pub some_changes : (first : Judged) (books : List Judged) → slice_get books 0 ≡ Some first → 1 < length books → is_some first.counted ≡ true →
      with_rows (with_heads blank_changes (heads (drop 1 books))) (map (change_row e first (drop 1 books)) (compared e)) ≡ changes_table e books
  some_changes first [] at more counted = absurd (omega (arith, more))
  some_changes first (j ∷ []) at more counted = absurd (omega (arith, more))
  some_changes first (j ∷ k ∷ others) at more counted =
      ap (λ o. with_rows (with_heads blank_changes (heads (k ∷ others))) (map (change_row e (unwrap_or o j) (k ∷ others)) (compared e))) (sym at)
      ∙ ap (with_rows (with_heads blank_changes (heads (k ∷ others))))
      (sym (all_rows j.counted (map (change_row e j (k ∷ others)) (compared e)) (ap (λ o. is_some (unwrap_or o j).counted) at ∙ counted)))

  pub each_seats : (first : Judged) (books : List Judged) → slice_get books 0 ≡ Some first →
      with_rows blank_seats (flat_map (λ j. map (seats_row e first j) (compared e)) books) ≡ seats_table e books
  each_seats first [] at = cc
  each_seats first (j ∷ others) at = ap (λ o. with_rows blank_seats (flat_map (λ k. map (seats_row e (unwrap_or o j) k) (compared e)) (j ∷ others))) (sym at)
