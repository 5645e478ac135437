use Rattle.std.proofs.Common.{List, length, sym, ap, ◌∙◌}
use Rattle.sl_base_quotients.specs.declared.entry.Entry.{Entry}
use Rattle.sl_base_rankings.specs.Peers.{peers}
use Rattle.sl_prio.specs.inner.Taken.{held_in}
use Rattle.sl_base_rankings.proofs.LawProofs.{order_is_free}
use Rattle.sl_prio.proofs.awards.AwardTable.peers.Goals as goal

pub returns-clause-value : goal.returns-clause-value
returns-clause-value c =
    let held = held_in c.self.inside.is_top_taken c.self.inside.prio in
    c.peers.ensures ∙ ap length (sym (order_is_free held c.settle.new.prio c.settle.ensures).same_peers) ∙ ap (λ (xs : List Entry). length (peers xs)) c.self.view_is
