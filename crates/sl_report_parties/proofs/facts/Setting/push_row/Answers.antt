use Rattle.std.proofs.Common.{map, ◌++◌, arith}
use Rattle.sl_report_parties.specs.Cells.{list_cell}
use Rattle.sl_report_parties.proofs.Steps.{mapped_behind, at_last}
use Rattle.sl_report_parties.proofs.facts.Setting.push_row.Goals as goal

pub loop-party-preserved : goal.loop-party-preserved
loop-party-preserved c =
    let s = c.args.self.now in
    mapped_behind (list_cell s.book.now.eligible.items s.returns.now c.args.fact c.args.land) c.loop-party.party c.args.cells.now.items _ _ _ c.loop-party.invariant c.in_ok-push.ensures.items c.list_cell.ensures

pub returns : goal.returns
returns c = at_last (λ parties. c.args.cells.now.items ++ map (list_cell c.args.self.now.book.now.eligible.items c.args.self.now.returns.now c.args.fact c.args.land) parties) c.loop-party.party _ _ (omega (arith, c.parties-party-end.ensures.number)) c.loop-party.invariant
