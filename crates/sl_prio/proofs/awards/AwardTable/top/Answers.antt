use Rattle.std.proofs.Common.{sym, ap, ◌∙◌}
use Rattle.sl_base_rankings.specs.Peers.{top}
use Rattle.sl_prio.specs.inner.Taken.{held_in}
use Rattle.sl_base_rankings.proofs.LawProofs.{order_is_free}
use Rattle.sl_prio.proofs.awards.AwardTable.top.Goals as goal

pub returns-clause-value : goal.returns-clause-value
returns-clause-value c =
    let held = held_in c.self.inside.is_top_taken c.self.inside.prio in
    c.top.ensures ∙ sym (order_is_free held c.settle.new.prio c.settle.ensures).same_top ∙ ap top c.self.view_is
