use Rattle.std.proofs.Common.{◌≡◌, ◌≤◌, map, take}
use Rattle.std.specs.List.{All}
use Rattle.sl_base_quotients.specs.declared.limits.TheConstants.{MAX_SEATS}
use Rattle.sl_count_texts.specs.inner.Counts.{counted_seats}
use Rattle.sl_count_texts.proofs.bounds.seats_within.Given as goal

abbrev pub invariant-loop-weight : goal.invariant-loop-weight
invariant-loop-weight l = record {
  taken : l.seats.items ≡ take l.weight-index (map (λ w. counted_seats l.counts w.now) l.scope);
  small : All (λ s. s ≤ MAX_SEATS) l.seats.items;
}
