use Rattle.std.proofs.Common.{◌∙◌, List, ap, slice_get}
use Rattle.sl_base_quotients.specs.declared.entry.Entry.{Entry}
use Rattle.sl_base_rankings.specs.Peers.{top}
use Rattle.sl_prio.proofs.Heaps.{top_at_first}
use Rattle.sl_prio.proofs.prio.Prio.top.Goals as goal

pub returns : goal.returns
returns c =
    c.copied.ensures ∙ c.first.ensures.value ∙ ap (λ (xs : List Entry). slice_get xs 0) c.deref.ensures.value ∙ top_at_first c.self.inside.entries.items c.self.invariant.kept.heap ∙ ap top c.self.view_is
