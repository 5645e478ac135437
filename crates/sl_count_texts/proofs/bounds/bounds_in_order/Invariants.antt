use Rattle.std.proofs.Common.{map, take}
use Rattle.sl_count_texts.specs.Bounds.{AreScopeBounds}
use Rattle.sl_count_texts.specs.inner.Counts.{counted_seats}
use Rattle.sl_count_texts.proofs.bounds.bounds_in_order.Given as goal

abbrev pub invariant-loop-scope : goal.invariant-loop-scope
invariant-loop-scope l =
    AreScopeBounds (counted_seats l.counts) (take l.scope-index (map (λ s. map (λ w. w.now) s.now) l.scope-items)) l.found.items
