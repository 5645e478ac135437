use Rattle.std.proofs.Common.{arith}
use Rattle.sl_law_meaning.specs.returns.Facts.{by_party}
use Rattle.sl_report_parties.specs.Cells.{list_cell}
use Rattle.sl_report_parties.proofs.Steps.{pieces_more, at_last}
use Rattle.std.specs.List.{flat_map}
use Rattle.sl_report_parties.proofs.facts.Setting.list_column.Goals as goal

pub loop-land-preserved : goal.loop-land-preserved
loop-land-preserved c =
    let s = c.args.self.now in
    pieces_more (λ land. by_party s.returns.now (list_cell s.book.now.eligible.items s.returns.now c.args.fact land)) c.loop-land.land _ _ c.loop-land.invariant c.in_ok-push_row.ensures

pub returns : goal.returns
returns c = at_last (flat_map (λ land. by_party c.args.self.now.returns.now (list_cell c.args.self.now.book.now.eligible.items c.args.self.now.returns.now c.args.fact land))) c.loop-land.land _ _ (omega (arith, c.lands-land-end.ensures.number)) c.loop-land.invariant
