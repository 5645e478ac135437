use Rattle.std.proofs.Common.{Some, ap, arith, drop, length, map, not, rules, take, ◌-◌, ◌<◌, ◌∙◌}
use Rattle.std.proofs.lemmas.List.{length-map}
use Rattle.std.specs.List.{range_with_len}
use Rattle.sl_report_forms.specs.Tables.{table_of, with_rows}
use Rattle.sl_report_tables.proofs.ComparedRows.{no_count, some_changes, with_others}
use Rattle.sl_report_tables.proofs.MoreRows.{rows_compared, rows_mapped}
use Rattle.sl_report_tables.proofs.SeatedBooks.{first_book, other_books}
use Rattle.sl_report_tables.specs.Compare.{change_row, compared}
use Rattle.sl_report_tables.specs.inner.Seated.{books_of}
use Rattle.sl_report_tables.proofs.changes.changes_sheet.Goals as goal

pub loop-party-preserved : goal.loop-party-preserved
loop-party-preserved c =
    let seated = c.args.seated.now in
    rows_mapped (λ n. change_row c.args.returns.now c.index-seated-0.result.judged.now (books_of (take (length seated - 1) (drop 1 seated))) (Some n)) c.loop-party.party _ _ _ c.loop-party.invariant
    (rw c.in_ok-change_row-2.ensures at c.in_ok-push-2.ensures)

pub returns : goal.returns
returns c =
    let e = c.args.returns.now in
    let books = c.args.books.now in
    let seated = c.args.seated.now in
    let first = c.index-seated-0.result in
    let some : 1 < length seated = omega (arith, c.if-books-lt2.false, ap length c.requires.books, length-map seated (λ x. x.judged.now)) in
    rows_compared (change_row e first.judged.now (books_of (take (length seated - 1) (drop 1 seated)))) (range_with_len 0 c.loop-party.party) _ _ _ (rw c.in_ok-change_row.ensures at c.in_ok-push.ensures)
    c.loop-party.invariant ∙ search rules
    ∙ ap (λ js. with_rows (table_of c.push_heads.new.sheet) (map (change_row e first.judged.now js) (compared e))) (other_books books seated c.requires.books)
    ∙ ap (λ t. with_rows t (map (change_row e first.judged.now (drop 1 books)) (compared e))) (with_others books _ _ c.in_ok-sheet.ensures c.in_ok-push_heads.ensures)
    ∙ some_changes e first.judged.now books (first_book books seated first c.requires.books (omega (arith, some)) c.index-seated-0.is) (omega (arith, c.if-books-lt2.false))
    (c.is_none.ensures ∙ ap not c.if-is_none.false)

pub returns-then-is_none : goal.returns-then-is_none
returns-then-is_none c =
    let books = c.args.books.now in
    let seated = c.args.seated.now in
    let first = c.index-seated-0.result in
    let some : 1 < length seated = omega (arith, c.if-books-lt2.false, ap length c.requires.books, length-map seated (λ x. x.judged.now)) in
    with_others books _ _ c.in_ok-sheet.ensures c.in_ok-push_heads.ensures
    ∙ no_count c.args.returns.now first.judged.now books (first_book books seated first c.requires.books (omega (arith, some)) c.index-seated-0.is) (omega (arith, c.if-books-lt2.false))
    (c.is_none.ensures ∙ ap not c.if-is_none.true)
