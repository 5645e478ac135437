use Rattle.std.proofs.Common.{length, ap, ◌∙◌}
use Rattle.sl_code_steps.specs.inner.Lots.{LotTable}
use Rattle.sl_code_steps.proofs.Priorities.{same_kept, same_on, seen_peers}
use Rattle.sl_code_steps.proofs.priority.PriorityTable.peers.Goals as goal

pub invariant_of-self : goal.invariant_of-self
invariant_of-self c = same_kept c.self.inside c.peers.new.self c.peers.ensures.same c.self.invariant

pub returns-clause-number : goal.returns-clause-number
returns-clause-number c = λ x h. c.peers.ensures.value ∙ ap length (seen_peers c.self.inside.kind c.self.inside.prio x (ap (λ (t : LotTable). t.on) c.self.view_is ∙ h))

pub returns-clause-same : goal.returns-clause-same
returns-clause-same c = same_on c.self.inside c.peers.new.self c.peers.ensures.same c.self.view_is
