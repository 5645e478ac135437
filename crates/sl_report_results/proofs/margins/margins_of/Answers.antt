use Rattle.std.proofs.Common.{◌≡◌, ◌≢◌, ℕ, ◌<◌, List, sum_by, sum, arith}
use Rattle.std.proofs.lemmas.List.Sums.{sum-map}
use Rattle.sl_report_parties.specs.Sums.{capped}
use Rattle.sl_report_results.specs.Scopes.{weights_of}
use Rattle.sl_report_results.specs.declared.scopes.Entry.{Entry}
use Rattle.std.proofs.Common.{◌∙◌}
use Rattle.sl_report_results.proofs.Fews.{few_seats, few_weights}
use Rattle.sl_report_results.proofs.margins.margins_of.Goals as goal

pub is_allocation-requires-clause-weights : goal.is_allocation-requires-clause-weights
is_allocation-requires-clause-weights c = few_weights c.args.entries.now (c.are_few.ensures.0 c.if-not-are_few.false) c.as_slice.result.now (c.as_slice.ensures.value ∙ c.in_ok-weights.ensures)

pub is_allocation-requires-clause-seats : goal.is_allocation-requires-clause-seats
is_allocation-requires-clause-seats c = few_seats c.args.entries.now (c.are_few.ensures.0 c.if-not-are_few.false) c.as_slice-2.result.now (c.as_slice-2.ensures.value ∙ c.in_ok-held.ensures)

pub found-requires-clause-weights : goal.found-requires-clause-weights
found-requires-clause-weights c = few_weights c.args.entries.now (c.are_few.ensures.0 c.if-not-are_few.false) c.as_slice-3.result.now (c.as_slice-3.ensures.value ∙ c.in_ok-weights.ensures)

pub found-requires-clause-seats : goal.found-requires-clause-seats
found-requires-clause-seats c = few_seats c.args.entries.now (c.are_few.ensures.0 c.if-not-are_few.false) c.as_slice-4.result.now (c.as_slice-4.ensures.value ∙ c.in_ok-held.ensures)

is_field : (xs : List Entry) (weight : ℕ) → weight ≡ capped (sum_by (λ x. x.weight) xs) → weight ≢ 0 → 0 < sum (weights_of xs)
is_field xs weight is some = omega (arith, sum-map (λ (x : Entry). x.weight) xs)

pub found-requires-clause-field : goal.found-requires-clause-field
found-requires-clause-field c = rw (c.as_slice-3.ensures.value, c.in_ok-weights.ensures) (is_field c.args.entries.now c.args.weight c.requires c.if-weight-eq0.false)

pub found-requires-clause-allocation : goal.found-requires-clause-allocation
found-requires-clause-allocation c =
    rw (c.as_slice-3.ensures.value, c.as_slice-4.ensures.value, ← c.as_slice.ensures.value, ← c.as_slice-2.ensures.value) (c.is_allocation.ensures.0 c.if-not-is_allocation.false)

pub returns : goal.returns
returns c = (
  record {
    few = c.are_few.ensures.0 c.if-not-are_few.false;
    field = is_field c.args.entries.now c.args.weight c.requires c.if-weight-eq0.false;
    allocation = rw (← c.in_ok-weights.ensures, ← c.in_ok-held.ensures, ← c.as_slice.ensures.value, ← c.as_slice-2.ensures.value) (c.is_allocation.ensures.0 c.if-not-is_allocation.false);
  },
  rw (← c.in_ok-weights.ensures, ← c.in_ok-held.ensures, ← c.as_slice-3.ensures.value, ← c.as_slice-4.ensures.value) c.in_ok-found.ensures.margins,
  rw (← c.in_ok-weights.ensures, ← c.in_ok-held.ensures, ← c.as_slice-3.ensures.value, ← c.as_slice-4.ensures.value) c.in_ok-found.ensures.lots,
)
