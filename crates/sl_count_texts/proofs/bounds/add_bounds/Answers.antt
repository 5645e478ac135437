use Rattle.std.proofs.Common.{Some, None, sym}
use Rattle.std.proofs.lemmas.List.{append-nil}
use Rattle.sl_count_texts.specs.inner.Counts.{counted_seats}
use Rattle.sl_count_texts.proofs.FoundBounds.{pair_bounds}
use Rattle.sl_count_texts.proofs.bounds.add_bounds.Goals as goal

pub returns-in_default-2 : goal.returns-in_default-2
returns-in_default-2 c =
    let bounds = pair_bounds (counted_seats c.args.counts.now) c.args.scope.now c.in-Some.first.now _ None (sym c.in-Some.ensures.value) c.in_default-2.is c.in_ok-pair.ensures in
    (_, bounds, sym (append-nil c.args.found.now.items))

pub returns : goal.returns
returns c =
    let bounds = pair_bounds (counted_seats c.args.counts.now) c.args.scope.now c.in-Some.first.now _ (Some c.in-Some-2.pair) (sym c.in-Some.ensures.value) c.in-Some-2.is c.in_ok-pair.ensures in
    (_, bounds, c.in_ok-push.ensures.items)
