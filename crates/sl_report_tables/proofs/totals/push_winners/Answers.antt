use Rattle.std.proofs.Common.{ap, nat_lt, sym, ◌∙◌, ◌∷◌, []}
use Rattle.std.proofs.lemmas.Bool.{le-ltb, lt-ltb}
use Rattle.std.proofs.lemmas.List.{append-nil}
use Rattle.sl_report_forms.specs.Tables.{contents_of, table_of, with_rows}
use Rattle.sl_report_tables.specs.Totals.{won_at, won_row}
use Rattle.sl_report_tables.proofs.MoreRows.{rows_filtered}
use Rattle.sl_report_tables.proofs.totals.push_winners.Goals as goal
use Rattle.sl_report_tables.proofs.totals.push_winners.Goals.{then-winners-gt0+in_ok-vec+in_ok-push, else-winners-gt0}

pub loop-party-preserved : goal.loop-party-preserved
loop-party-preserved c =
    let won = won_at c.args.counts.now.returns.now c.args.land in
    let party = c.loop-party.party in
    rows_filtered (won_row c.args.counts.now.returns.now c.args.land) (λ party. nat_lt 0 (won party)) party _ _ _ c.loop-party.invariant
    (elim c.if-winners-gt0.branch [
      | then-winners-gt0+in_ok-vec+in_ok-push w ↦ rw (lt-ltb 0 (won party) (rw c.at-winners.ensures at w.if-winners-gt0.true)) (
          ap table_of w.sheet-is ∙ w.in_ok-push.ensures
          ∙ ap (λ row. with_rows (table_of c.loop-party.sheet) (row ∷ []))
          (rw (w.name.ensures, w.name-then-winners-gt0.ensures, c.at-winners.ensures) at (ap contents_of w.in_ok-vec.ensures.items)))
      | else-winners-gt0 w ↦ rw (le-ltb 0 (won party) (rw c.at-winners.ensures at w.if-winners-gt0.false)) (
          ap table_of w.sheet-is ∙ ap (λ rows. record (table_of c.loop-party.sheet) { rows = rows }) (sym (append-nil (table_of c.loop-party.sheet).rows)))
    ])
