use Rattle.std.proofs.Common.{◌≢◌, ◌∙◌, arith}
use Rattle.std.proofs.lemmas.List.{length-set}
use Rattle.std.proofs.lemmas.List.Sorted.{IsPermutation-trans}
use Rattle.sl_prio.proofs.Gaps.{deeper, filled, moves}
use Rattle.sl_prio.proofs.heap.sink.Goals as goal

pub loop-child-preserved : goal.loop-child-preserved
loop-child-preserved c =
    let now = c.loop-child in
    let xs = now.entries in
    let j = now.hole in
    let child = c.in-Some.child in
    let y = c.index-entries-child.result in
    let found = c.in-Some.ensures in
    let from = found.from in
    let gap = now.invariant.within in
    let other : child ≢ j = omega (arith, from) in
    let read = c.index-entries-child.is in
    let long = length-set xs j y in
    let within = found.within in record {
      within = omega (arith, long, within);
      same_length = long ∙ now.invariant.same_length;
      moved = λ x. IsPermutation-trans _ _ _ (now.invariant.moved x) (moves xs j child x y gap within other read);
      others = deeper xs j child y gap read found now.invariant.others;
    }

pub returns-clause-settled : goal.returns-clause-settled
returns-clause-settled c = λ x. filled c.loop-child.entries c.loop-child.hole x c.loop-child.invariant.within c.in_default.ensures c.loop-child.invariant.others
