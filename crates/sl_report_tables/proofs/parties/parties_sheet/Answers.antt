use Rattle.std.specs.Prelude.{option_map}
use Rattle.sl_report_tables.specs.Parties.{party_row}
use Rattle.sl_report_tables.proofs.MoreRows.{rows_mapped}
use Rattle.sl_report_tables.proofs.parties.parties_sheet.Goals as goal

pub loop-party-preserved : goal.loop-party-preserved
loop-party-preserved c =
    rows_mapped (party_row c.args.setting.now.book.now.eligible.items c.args.setting.now.returns.now (option_map (λ t. t.now) c.args.table))
    c.loop-party.party _ _ _ c.loop-party.invariant (rw c.in_ok-party_row.ensures at c.in_ok-push.ensures)
