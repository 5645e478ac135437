use Rattle.std.proofs.Common.{◌≡◌, ◌+◌, ◌*◌, ◌<◌, ◌∷◌, List, Some, slice_get, sym, ap, subst, ◌∙◌, arith}
use Rattle.std.specs.Cmp.{nat_cmp_is}
use Rattle.std.specs.declared.cmp.Ordering.TheVariants.{Less, Equal, Greater}
use Rattle.sl_base_quotients.specs.declared.entry.Entry.{Entry}
use Rattle.sl_base_quotients.specs.inner.Kept.{whole_part}
use Rattle.sl_base_quotients.proofs.WholeParts.{below_by_wholes}
use Rattle.sl_base_rankings.specs.Peers.{peers, top}
use Rattle.sl_prio.specs.inner.Heap.{IsNewPeer}
use Rattle.sl_prio.proofs.Heaps.{top_at_first}
use Rattle.sl_prio.proofs.PeerCounts.{new_alike, new_greater, passed, peers_at_most}
use Rattle.sl_prio.proofs.prio.Prio.peers_with.Goals as goal

pub overflow_add-result : goal.overflow_add-result
overflow_add-result c = let most = peers_at_most c.self.inside.entries.items in let e = c.self.invariant.counted.counted in omega (arith, most, e)

pub returns-then-whole : goal.returns-then-whole
returns-then-whole c =
    let held = c.self.inside.entries.items in
    let first = c.in-Some.top.now in
    let x = c.args.entry.now in
    let less : whole_part x.ratio < whole_part first.ratio = omega (arith, c.whole.ensures.value, c.whole-2.ensures.value) in
    let is_top : top held ≡ Some first = sym (top_at_first held c.self.invariant.kept.heap) ∙ sym (ap (λ (xs : List Entry). slice_get xs 0) c.deref.ensures.value) ∙ sym c.in-Some.ensures.value in
    subst (λ (xs : List Entry). peers (x ∷ xs) ≡ peers xs) c.self.view_is
    (passed held c.self.invariant.kept.ratios first is_top x c.requires
    (sym (nat_cmp_is (x.ratio.num * first.ratio.den) (first.ratio.num * x.ratio.den) Less (below_by_wholes x.ratio first.ratio c.whole-2.ensures.fits.positive less))))

pub returns-then-mine-its : goal.returns-then-mine-its
returns-then-mine-its c =
    let held = c.self.inside.entries.items in
    let first = c.in-Some.top.now in
    let mine = c.args.entry.now.ratio.num * first.ratio.den in
    let its = first.ratio.num * c.args.entry.now.ratio.den in
    let is_top : top held ≡ Some first = sym (top_at_first held c.self.invariant.kept.heap) ∙ sym (ap (λ (xs : List Entry). slice_get xs 0) c.deref.ensures.value) ∙ sym c.in-Some.ensures.value in
    subst (λ (xs : List Entry). peers (c.args.entry.now ∷ xs) ≡ peers xs) c.self.view_is
    (passed held c.self.invariant.kept.ratios first is_top c.args.entry.now c.requires (sym (nat_cmp_is mine its Less (omega arith))))

pub returns-then-mine-its-2 : goal.returns-then-mine-its-2
returns-then-mine-its-2 c =
    let held = c.self.inside.entries.items in
    let first = c.in-Some.top.now in
    let mine = c.args.entry.now.ratio.num * first.ratio.den in
    let its = first.ratio.num * c.args.entry.now.ratio.den in
    let is_top : top held ≡ Some first = sym (top_at_first held c.self.invariant.kept.heap) ∙ sym (ap (λ (xs : List Entry). slice_get xs 0) c.deref.ensures.value) ∙ sym c.in-Some.ensures.value in
    subst (λ (xs : List Entry). IsNewPeer xs c.args.entry.now (c.self.inside.counted.count + 1)) c.self.view_is
    (new_alike held c.self.invariant.kept.ratios first is_top c.args.entry.now c.requires (sym (nat_cmp_is mine its Equal (omega arith))) c.self.inside.counted.count c.self.invariant.counted.counted)

pub returns-else-mine-its-2 : goal.returns-else-mine-its-2
returns-else-mine-its-2 c =
    let held = c.self.inside.entries.items in
    let first = c.in-Some.top.now in
    let mine = c.args.entry.now.ratio.num * first.ratio.den in
    let its = first.ratio.num * c.args.entry.now.ratio.den in
    let is_top : top held ≡ Some first = sym (top_at_first held c.self.invariant.kept.heap) ∙ sym (ap (λ (xs : List Entry). slice_get xs 0) c.deref.ensures.value) ∙ sym c.in-Some.ensures.value in
    subst (λ (xs : List Entry). IsNewPeer xs c.args.entry.now 1) c.self.view_is
    (new_greater held c.self.invariant.kept.ratios first is_top c.args.entry.now c.requires (sym (nat_cmp_is mine its Greater (omega arith))))
