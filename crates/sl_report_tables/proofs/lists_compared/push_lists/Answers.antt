use Rattle.std.proofs.Common.{ap, sym}
use Rattle.std.proofs.lemmas.List.{append-nil}
use Rattle.sl_report_forms.specs.Tables.{table_of}
use Rattle.sl_report_tables.specs.Compare.{has_seats, list_seats_row}
use Rattle.sl_report_tables.proofs.MoreRows.{rows_filtered}
use Rattle.sl_report_tables.proofs.lists_compared.push_lists.Goals.{else-is_given, then-is_given+in_ok-list_row+in_ok-push}
use Rattle.sl_report_tables.proofs.lists_compared.push_lists.Goals as goal

pub loop-party-preserved : goal.loop-party-preserved
loop-party-preserved c =
    let books = c.args.books.now in
    rows_filtered (list_seats_row books c.args.land) (has_seats c.args.returns.now books c.args.land) c.loop-party.party _ _ _ c.loop-party.invariant (
    elim c.if-is_given.branch [
      | then-is_given+in_ok-list_row+in_ok-push w ↦ rw (w.sheet-is, sym c.is_given.ensures, w.if-is_given.true) (rw w.in_ok-list_row.ensures at w.in_ok-push.ensures)
      | else-is_given w ↦ rw (w.sheet-is, sym c.is_given.ensures, w.if-is_given.false) (ap (λ rows. record (table_of c.loop-party.sheet) { rows = rows }) (sym (append-nil (table_of c.loop-party.sheet).rows)))
    ])
