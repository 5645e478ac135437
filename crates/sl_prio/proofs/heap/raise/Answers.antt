use Rattle.std.proofs.Common.{◌≢◌, ◌-◌, ◌/◌, ◌<◌, length, set, ◌∙◌, inl, inr, arith}
use Rattle.std.proofs.lemmas.Bool.{cases_eq}
use Rattle.std.proofs.lemmas.List.{length-set}
use Rattle.std.proofs.lemmas.List.Sorted.{IsPermutation-trans}
use Rattle.sl_prio.proofs.Gaps.{after, before, exchanged_back, moves, same_length, under_gap, gap_under}
use Rattle.sl_prio.proofs.Heaps.{risen, rests_on_top, rests_under_parent}
use Rattle.sl_prio.proofs.heap.raise.Goals as goal

pub loop-parent-preserved : goal.loop-parent-preserved
loop-parent-preserved c =
    let now = c.loop-parent in
    let xs = now.entries in
    let j = now.hole in
    let parent = c.in-Some.parent in
    let x = c.args.entry in
    let y = c.index-entries-parent.result in
    let found = c.in-Some.ensures in
    let pos = found.above in
    let is = found.parent in
    let gap = now.invariant.within in
    let within : parent < length xs = omega (arith, is, gap) in
    let other : parent ≢ j = omega (arith, is, pos) in
    let read = c.index-entries-parent.is in
    let long = length-set xs j y in record {
      within = omega (arith, long, within);
      same_length = long ∙ now.invariant.same_length;
      moved = IsPermutation-trans _ _ _ now.invariant.moved (moves xs j parent x y gap within other read);
      rises =
          risen (before xs j parent x y gap within other read) (after xs j parent x y gap within other read) parent j (exchanged_back xs j parent x y gap within other read) (same_length xs j parent x y gap within other read)
          (omega (arith, is, pos)) (omega (arith, is, pos)) now.invariant.rises (under_gap xs j parent x gap within other found.smaller);
    }

pub returns-clause-heap : goal.returns-clause-heap
returns-clause-heap c =
    let now = c.loop-parent in
    let xs = now.entries in
    let j = now.hole in
    let x = c.args.entry in
    let gap = now.invariant.within in
    elim (cases_eq j 0) [
      | inl e ↦ rests_on_top (set xs j x) j now.invariant.rises e
      | inr z ↦
          let pos : 0 < j = omega arith in
          let parent = (j - 1) / 2 in
          let within : parent < length xs = omega (arith, gap) in
          let other : parent ≢ j = omega (arith, pos) in
          rests_under_parent (set xs j x) j now.invariant.rises pos (gap_under xs j parent x gap within other (c.in_default.ensures pos))
    ]
