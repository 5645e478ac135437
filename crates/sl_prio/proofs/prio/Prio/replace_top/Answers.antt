use Rattle.std.proofs.Common.{◌∷◌, List, IfSome, IsPermutation, set, sym, subst, ◌∙◌, arith}
use Rattle.sl_base_quotients.specs.declared.entry.Entry.{Entry}
use Rattle.sl_base_rankings.specs.Peers.{top, peers}
use Rattle.sl_prio.specs.inner.Heap.{AreCounted, IsKept}
use Rattle.sl_prio.proofs.Heaps.{given_back}
use Rattle.sl_prio.proofs.TakenTops.{counted_again, first_replaced, kept_replaced}
use Rattle.sl_prio.proofs.prio.Prio.replace_top.Goals as goal

pub again-self-inside-requires : goal.again-self-inside-requires
again-self-inside-requires c =
    let held = c.self.inside.entries.items in
    let after = c.replace_first.new.entries in
    let moved = subst (λ (xs : List Entry). IsPermutation (set xs 0 c.args.entry) after) c.deref_mut.ensures.value c.replace_first.ensures.moved in
    record {
      kept = subst (λ (xs : List Entry). IsKept xs) (sym (c.deref.ensures.value ∙ given_back c.self.inside.entries.len held after (omega arith) (omega arith)))
          (kept_replaced held after c.args.entry c.num.ensures.fits c.self.invariant.kept.ratios moved c.replace_first.ensures.heap);
    }

pub invariant_of-self : goal.invariant_of-self
invariant_of-self c =
    let held = c.self.inside.entries.items in
    let after = c.replace_first.new.entries in
    let back = given_back c.self.inside.entries.len held after (omega arith) (omega arith) in
    let moved = subst (λ (xs : List Entry). IsPermutation (set xs 0 c.args.entry) after) c.deref_mut.ensures.value c.replace_first.ensures.moved in
    let made = c.again-self-inside in
    rw back (record {
      kept = kept_replaced held after c.args.entry c.num.ensures.fits c.self.invariant.kept.ratios moved c.replace_first.ensures.heap;
      counted = subst (λ (xs : List Entry). AreCounted (peers xs) made.result.count made.result.marked c.self.inside.marks.items) (c.deref.ensures.value ∙ back)
          (counted_again c.deref.result.now made.result.count made.result.marked c.self.inside.marks.items made.ensures.count made.ensures.marked);
    })

pub returns : goal.returns
returns c =
    let held = c.self.inside.entries.items in
    let after = c.replace_first.new.entries in
    let back = given_back c.self.inside.entries.len held after (omega arith) (omega arith) in
    let moved = subst (λ (xs : List Entry). IsPermutation (set xs 0 c.args.entry) after) c.deref_mut.ensures.value c.replace_first.ensures.moved in
    rw back (subst (λ (xs : List Entry). IfSome (top xs) (λ first. IsPermutation (c.args.entry ∷ xs) (first ∷ after))) c.self.view_is
    (first_replaced held after c.args.entry c.self.invariant.kept.heap moved))
