use Rattle.std.proofs.Common.{◌∷◌, Bool, List, IsPermutation, get_or, Contains, refl, sym, subst, arith}
use Rattle.sl_base_quotients.specs.declared.entry.Entry.{Entry}
use Rattle.sl_base_rankings.specs.Peers.{peers}
use Rattle.sl_prio.specs.inner.Heap.{AreCounted, IsKept}
use Rattle.sl_prio.proofs.Heaps.{given_back, kept_after}
use Rattle.sl_prio.proofs.PeerCounts.{left_counted}
use Rattle.sl_prio.proofs.prio.Prio.remove.Goals as goal

pub peers_left-self-inside-requires-clause-kept : goal.peers_left-self-inside-requires-clause-kept
peers_left-self-inside-requires-clause-kept c =
    let held = c.self.inside.entries.items in
    let after = c.take_out.new.entries.items in
    let gone = c.index.result.now in
    let taken = subst (λ (x : Entry). IsPermutation held (x ∷ after)) (sym c.index.ensures) (c.take_out.ensures.rest gone) in
    subst (λ (xs : List Entry). IsKept xs) (sym c.deref.ensures.value) (kept_after held after gone taken c.self.invariant.kept.ratios c.take_out.ensures.heap)

pub peers_left-self-inside-requires-clause-before : goal.peers_left-self-inside-requires-clause-before
peers_left-self-inside-requires-clause-before c = λ several.
    let held = c.self.inside.entries.items in
    let before = c.self.inside.counted in
    let after = c.take_out.new.entries.items in
    let gone = c.index.result.now in
    let taken = subst (λ (x : Entry). IsPermutation held (x ∷ after)) (sym c.index.ensures) (c.take_out.ensures.rest gone) in
    let named = subst (λ (xs : List Entry). Contains (peers xs) (get_or xs c.args.place gone)) (sym c.self.view_is) (c.requires.peer gone) in
    let peer = subst (λ (x : Entry). Contains (peers held) x) (sym c.index.ensures) named in
    let marks = c.deref_mut-2.result.now in
    let counted = subst (λ (ms : List Bool). AreCounted (gone ∷ peers after) before.count before.marked ms) (sym c.deref_mut-2.ensures.value)
    (left_counted held after gone c.self.invariant.kept.ratios peer taken before.count before.marked c.self.inside.marks.items c.self.invariant.counted several) in
    (gone, refl, subst (λ (xs : List Entry). AreCounted (gone ∷ peers xs) before.count before.marked marks) (sym c.deref.ensures.value) counted)

pub invariant_of-self : goal.invariant_of-self
invariant_of-self c =
    let left = c.peers_left-self-inside in
    let held = c.self.inside.entries.items in
    let after = c.take_out.new.entries.items in
    let gone = c.index.result.now in
    let taken = subst (λ (x : Entry). IsPermutation held (x ∷ after)) (sym c.index.ensures) (c.take_out.ensures.rest gone) in
    rw (given_back c.self.inside.marks.len c.self.inside.marks.items left.new.marks (omega arith) (omega arith)) (record {
      kept = kept_after held after gone taken c.self.invariant.kept.ratios c.take_out.ensures.heap;
      counted = subst (λ (xs : List Entry). AreCounted (peers xs) left.result.count left.result.marked left.new.marks) c.deref.ensures.value left.ensures;
    })
