use Rattle.std.proofs.Common.{◌≡◌, Bool, List, [], ◌∷◌, ◌++◌, IsPermutation, sym, subst, ◌∙◌, arith}
use Rattle.std.proofs.lemmas.List.Elements.{All-push}
use Rattle.std.proofs.lemmas.List.Sorted.{IsPermutation-to_front, IsPermutation-sym, IsPermutation-trans}
use Rattle.sl_base_quotients.specs.Quotient.{FitsRatio}
use Rattle.sl_base_quotients.specs.declared.entry.Entry.{Entry}
use Rattle.sl_base_rankings.specs.Peers.{peers}
use Rattle.sl_prio.specs.inner.Heap.{AreCounted, IsNewPeer}
use Rattle.sl_base_rankings.proofs.LawProofs.{order_is_free}
use Rattle.sl_prio.proofs.Gaps.{joins}
use Rattle.sl_prio.proofs.Heaps.{given_back, kept_by}
use Rattle.sl_prio.proofs.PeerCounts.{joined_counted}
use Rattle.sl_prio.proofs.prio.Prio.add.Goals as goal

pub invariant_of-self-2 : goal.invariant_of-self-2
invariant_of-self-2 c =
    let pushed = c.push.new.self.items in
    let after = c.raise.new.entries in
    let held = c.self.inside.entries.items in
    let more = held ++ c.args.entry ∷ [] in
    let ratios = All-push (λ (x : Entry). FitsRatio x.ratio) held c.args.entry c.self.invariant.kept.ratios c.num.ensures.fits in
    let moved = joins held c.deref_mut.result.now after c.args.entry c.len-place.result (c.deref_mut.ensures.value ∙ c.in_ok-push.ensures.items) (omega arith) c.raise.ensures.moved in
    let first = IsPermutation-sym more (c.args.entry ∷ held) (IsPermutation-to_front held c.args.entry) in
    let both = IsPermutation-trans (c.args.entry ∷ held) more after first moved in
    let same = (order_is_free (c.args.entry ∷ held) after both).same_peers in
    let joined = subst (λ (xs : List Entry). IsNewPeer xs c.args.entry c.in-Some.count) (sym c.self.view_is) c.in-Some.ensures in
    let before = c.self.inside.counted in
    let marks = c.self.inside.marks in
    let now = c.with_one-self-inside.new.marks in
    let counted = subst (λ (ms : List Bool). AreCounted (peers held) before.count before.marked ms) (sym c.deref_mut-4.ensures.value) c.self.invariant.counted in
    rw (given_back c.push.new.self.len pushed after (omega arith) (omega arith)) (rw (given_back marks.len marks.items now (omega arith) (omega arith)) (record {
      kept = kept_by more after moved ratios c.raise.ensures.heap;
      counted =
          joined_counted held c.self.invariant.kept.ratios c.args.entry c.num.ensures.fits after c.in-Some.count joined same before.count before.marked c.deref_mut-4.result.now
          counted c.with_one-self-inside.result.count c.with_one-self-inside.result.marked now
          c.with_one-self-inside.ensures.count c.with_one-self-inside.ensures.fresh c.with_one-self-inside.ensures.kept;
    }))

pub invariant_of-self-in_default : goal.invariant_of-self-in_default
invariant_of-self-in_default c =
    let pushed = c.push.new.self.items in
    let after = c.raise.new.entries in
    let held = c.self.inside.entries.items in
    let more = held ++ c.args.entry ∷ [] in
    let ratios = All-push (λ (x : Entry). FitsRatio x.ratio) held c.args.entry c.self.invariant.kept.ratios c.num.ensures.fits in
    let moved = joins held c.deref_mut.result.now after c.args.entry c.len-place.result (c.deref_mut.ensures.value ∙ c.in_ok-push.ensures.items) (omega arith) c.raise.ensures.moved in
    let first = IsPermutation-sym more (c.args.entry ∷ held) (IsPermutation-to_front held c.args.entry) in
    let both = IsPermutation-trans (c.args.entry ∷ held) more after first moved in
    let same = (order_is_free (c.args.entry ∷ held) after both).same_peers in
    let passed = subst (λ (xs : List Entry). peers (c.args.entry ∷ xs) ≡ peers xs) (sym c.self.view_is) c.in_default.ensures in
    rw (given_back c.push.new.self.len pushed after (omega arith) (omega arith)) (record {
      kept = kept_by more after moved ratios c.raise.ensures.heap;
      counted = subst (λ (ps : List Entry). AreCounted ps c.self.inside.counted.count c.self.inside.counted.marked c.self.inside.marks.items) (sym passed ∙ same) c.self.invariant.counted;
    })

pub returns-clause-added : goal.returns-clause-added
returns-clause-added c =
    let pushed = c.push.new.self.items in
    let after = c.raise.new.entries in
    let held = c.self.inside.entries.items in
    let more = held ++ c.args.entry ∷ [] in
    let moved = joins held c.deref_mut.result.now after c.args.entry c.len-place.result (c.deref_mut.ensures.value ∙ c.in_ok-push.ensures.items) (omega arith) c.raise.ensures.moved in
    let first = IsPermutation-sym more (c.args.entry ∷ held) (IsPermutation-to_front held c.args.entry) in
    rw (given_back c.push.new.self.len pushed after (omega arith) (omega arith))
    (subst (λ (xs : List Entry). IsPermutation (c.args.entry ∷ xs) after) c.self.view_is (IsPermutation-trans (c.args.entry ∷ held) more after first moved))

pub returns-in_default-clause-added : goal.returns-in_default-clause-added
returns-in_default-clause-added c =
    let pushed = c.push.new.self.items in
    let after = c.raise.new.entries in
    let held = c.self.inside.entries.items in
    let more = held ++ c.args.entry ∷ [] in
    let moved = joins held c.deref_mut.result.now after c.args.entry c.len-place.result (c.deref_mut.ensures.value ∙ c.in_ok-push.ensures.items) (omega arith) c.raise.ensures.moved in
    let first = IsPermutation-sym more (c.args.entry ∷ held) (IsPermutation-to_front held c.args.entry) in
    rw (given_back c.push.new.self.len pushed after (omega arith) (omega arith))
    (subst (λ (xs : List Entry). IsPermutation (c.args.entry ∷ xs) after) c.self.view_is (IsPermutation-trans (c.args.entry ∷ held) more after first moved))
