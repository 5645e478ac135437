use Rattle.std.proofs.Common.{◌<◌, ◌≤◌, map, sum, option_map, inl, sym, subst, ◌∙◌}
use Rattle.std.proofs.lemmas.List.{length-map}
use Rattle.sl_base_quotients.specs.declared.limits.TheConstants.{MAX_SEATS}
use Rattle.sl_base_quotients.specs.Bounds.{AreBounds}
use Rattle.sl_count_texts.specs.inner.Counts.{counted_seats, IsWithin}
use Rattle.sl_count_texts.proofs.BoundsWeights.{positive_weights, limited_weights}
use Rattle.sl_count_texts.proofs.bounds.told_pair.Goals as goal

pub bounds-requires-clause-positive : goal.bounds-requires-clause-positive
bounds-requires-clause-positive c =
    positive_weights c.args.method (map (λ w. w.now) c.args.scope.now) c.deref-2.result.now (c.deref-2.ensures.value ∙ c.in_ok-weights.ensures) c.if-not-are_bounds_weights.ensures

pub bounds-requires-clause-weights : goal.bounds-requires-clause-weights
bounds-requires-clause-weights c =
    limited_weights c.args.method (map (λ w. w.now) c.args.scope.now) c.deref-2.result.now (c.deref-2.ensures.value ∙ c.in_ok-weights.ensures) c.if-not-are_bounds_weights.ensures

pub returns : goal.returns
returns c =
    let method = c.args.method in
    let weights = map (λ w. w.weight) (map (λ w. w.now) c.args.scope.now) in
    let seats = map (λ w. counted_seats c.args.counts.now w.now) c.args.scope.now in
    let within = subst (λ o. IsWithin (λ s. s ≤ MAX_SEATS) seats (option_map (λ s. s.items) o)) c.in-Some.is c.in_ok-seats.ensures in
    inl (
      record {
        rounding = sym c.if-not-is_rounding.ensures;
        weights = c.if-not-are_bounds_weights.ensures;
        held = within.1;
        awarded = subst (λ xs. 0 < sum xs) (c.deref.ensures.value ∙ within.0) c.if-not-is_awarded.ensures;
      },
      subst (λ v. AreBounds method v seats c.bounds.result) (c.deref-2.ensures.value ∙ c.in_ok-weights.ensures)
          (subst (λ s. AreBounds method c.deref-2.result.now s c.bounds.result) (c.deref-3.ensures.value ∙ within.0) c.bounds.ensures),
    )

pub bounds-requires-clause-same_length : goal.bounds-requires-clause-same_length
bounds-requires-clause-same_length c =
    let within = subst (λ o. IsWithin (λ s. s ≤ MAX_SEATS) (map (λ w. counted_seats c.args.counts.now w.now) c.args.scope.now) (option_map (λ s. s.items) o)) c.in-Some.is c.in_ok-seats.ensures in
    rw (c.deref-3.ensures.value, within.0, c.deref-2.ensures.value, c.in_ok-weights.ensures) (simp length-map)
