use Rattle.std.proofs.Common.{arith, refl, ◌<◌, ◌∙◌}
use Rattle.sl_report_forms.specs.Tables.{contents_of, table_of}
use Rattle.sl_report_parties.proofs.Taking.{part_at, parts_long}
use Rattle.sl_report_tables.specs.Totals.{IsVotesRow}
use Rattle.sl_report_tables.proofs.GrowingTables.{grows_more}
use Rattle.sl_law_meaning.specs.returns.Election.{parties_of}
use Rattle.sl_report_tables.proofs.totals.votes_sheet.Goals as goal

pub index-part-requires : goal.index-part-requires
index-part-requires c =
    let parts = c.in_ok-parts.parts.items in
    omega (arith, parts_long c.args.conditions.now c.args.returns.now parts parts refl c.in_ok-parts.ensures, c.loop-party-test.true, c.parties-party-end.ensures.number)

pub party_row-requires-clause-part : goal.party_row-requires-clause-part
party_row-requires-clause-part c =
    let e = c.args.returns.now in
    let parts = c.in_ok-parts.parts.items in
    let within : c.loop-party.party < parties_of e = omega (arith, c.loop-party-test.true, c.parties-party-end.ensures.number) in
    c.index-part.ensures ∙ part_at c.args.conditions.now e parts parts refl c.in_ok-parts.ensures c.loop-party.party c.index-part.result.now within

pub loop-party-preserved : goal.loop-party-preserved
loop-party-preserved c =
    grows_more (IsVotesRow c.args.conditions.now c.args.returns.now) c.loop-party.party (table_of c.in_ok-sheet.sheet)
    (table_of c.loop-party.sheet) (table_of c.push.new.self) c.loop-party.invariant (contents_of c.in_ok-party_row.field-0.items, c.in_ok-party_row.ensures, c.in_ok-push.ensures)
