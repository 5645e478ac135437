use Rattle.std.proofs.Common.{Some, ap, map, rules, string_bytes, ◌∙◌}
use Rattle.std.specs.List.{range_with_len}
use Rattle.sl_report_forms.specs.Tables.{table_of, under, with_heads, with_rows}
use Rattle.sl_report_tables.specs.Compare.{compared, compared_row}
use Rattle.sl_report_tables.specs.inner.Seated.{books_of}
use Rattle.sl_report_tables.proofs.MoreRows.{rows_compared, rows_mapped}
use Rattle.sl_report_tables.proofs.compare.seats_sheet.Goals as goal

pub loop-party-preserved : goal.loop-party-preserved
loop-party-preserved c =
    rows_mapped (λ n. compared_row c.args.returns.now (books_of c.args.seated.now) (Some n)) c.loop-party.party _ _ _ c.loop-party.invariant
    (rw c.in_ok-compared_row-2.ensures at c.in_ok-push-2.ensures)

pub returns : goal.returns
returns c =
    let e = c.args.returns.now in
    let books = c.args.books.now in
    rows_compared (compared_row e (books_of c.args.seated.now)) (range_with_len 0 c.loop-party.party) _ _ _ (rw c.in_ok-compared_row.ensures at c.in_ok-push.ensures) c.loop-party.invariant ∙ search rules
    ∙ ap (λ js. with_rows (table_of c.push_heads.new.sheet) (map (compared_row e js) (compared e))) c.requires.books
    ∙ ap (λ t. with_rows t (map (compared_row e books) (compared e))) (c.in_ok-push_heads.ensures ∙ ap (λ t. with_heads t (map (λ j. under (string_bytes j.word)) books)) c.in_ok-sheet.ensures)
