use Rattle.std.proofs.Common.{List, slice_get, sym, ap, ◌∙◌}
use Rattle.sl_base_quotients.specs.declared.entry.Entry.{Entry}
use Rattle.sl_base_rankings.specs.Peers.{is_covered}
use Rattle.sl_prio.specs.inner.Heap.{are_named, peers_under}
use Rattle.sl_prio.proofs.Seen.{seen_named}
use Rattle.sl_prio.proofs.prio.Prio.covers.Goals as goal

pub returns-in-Some : goal.returns-in-Some
returns-in-Some c =
    let lot = c.args.lot.now in
    let first = c.in-Some.top.now in
    let held = c.self.inside.entries.items in
    let at = sym (ap (λ (xs : List Entry). slice_get xs 0) c.deref.ensures.value) ∙ sym c.in-Some.ensures.value in
    c.are_named.ensures ∙ ap (λ (xs : List Entry). are_named lot (peers_under first xs 0)) c.deref-in-Some.ensures.value ∙
    seen_named held c.self.invariant.kept.heap first at lot ∙ ap (is_covered lot) c.self.view_is
