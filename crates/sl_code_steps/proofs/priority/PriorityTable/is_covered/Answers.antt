use Rattle.std.proofs.Common.{ap, ◌∙◌}
use Rattle.std.specs.Prelude.{if◌then◌else◌}
use Rattle.sl_base_rankings.specs.Peers.{is_covered}
use Rattle.sl_code_semantics.specs.Effects.{Goes, Jumps}
use Rattle.sl_code_steps.specs.inner.Lots.{LotTable}
use Rattle.sl_code_steps.proofs.Priorities.{covered_is, same_kept, same_on}
use Rattle.sl_code_steps.proofs.drawing.Passing.{its_lot}
use Rattle.sl_code_steps.proofs.priority.PriorityTable.is_covered.Goals as goal

pub invariant_of-self : goal.invariant_of-self
invariant_of-self c = same_kept c.self.inside c.covers.new.self c.covers.ensures.same c.self.invariant

pub returns-clause-covered : goal.returns-clause-covered
returns-clause-covered c = λ s.
    let t = c.self.inside in
    let k = c.unwrap-kind.result in
    let lot = c.lot-lot.result.now in
    its_lot t.kind k t.prio t.lots c.args.stage c.args.self.now lot (λ table l. if is_covered l table.contents then Goes s else Jumps s) c.unwrap-kind.ensures c.self.view_is c.lot-lot.ensures
    ∙ covered_is t.kind k t.prio c.args.self.now.on lot s c.covers.result c.unwrap-kind.ensures (ap (λ (t : LotTable). t.on) c.self.view_is) c.covers.ensures.value

pub returns-clause-same : goal.returns-clause-same
returns-clause-same c = same_on c.self.inside c.covers.new.self c.covers.ensures.same c.self.view_is
