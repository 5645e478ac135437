use Rattle.std.proofs.Common.{sym, ap, ◌∙◌}
use Rattle.sl_base_rankings.specs.Peers.{is_covered}
use Rattle.sl_prio.specs.inner.Taken.{held_in}
use Rattle.sl_base_rankings.proofs.LawProofs.{order_is_free}
use Rattle.sl_prio.proofs.awards.AwardTable.covers.Goals as goal

pub returns-clause-value : goal.returns-clause-value
returns-clause-value c =
    let held = held_in c.self.inside.is_top_taken c.self.inside.prio in
    c.covers.ensures ∙ sym ((order_is_free held c.settle.new.prio c.settle.ensures).same_covers c.args.lot.now) ∙ ap (is_covered c.args.lot.now) c.self.view_is
