-- The records of an expression with no more than one split or growth: all of one stage, and none twice.
use Rattle.std.proofs.Common.{◌≡◌, ℕ, ◌&&◌, Bool, false, List, [], Option, is_none, nat_eq, ap, ◌∙◌}
use Rattle.std.specs.Prelude.{zip, flat_map}
use Rattle.std.specs.List.{AllByRecursion as Every, IsDistinct}
use Rattle.std.proofs.lemmas.Bool.{and_left, and_right, cond_both}
use Rattle.sl_base_quotients.specs.declared.method.Divisor.{Divisor}
use Rattle.sl_base_quotients.specs.declared.method.Method.{Method}
use Rattle.sl_base_quotients.specs.declared.method.Method.TheVariants as by
use Rattle.sl_law_meaning.specs.declared.book.Majority.{Majority}
use Rattle.sl_law_meaning.specs.declared.fault.Scope.{Scope}
use Rattle.sl_law_meaning.specs.declared.table.Mark.{Mark}
use Rattle.sl_law_meaning.specs.declared.table.SeatStep.{SeatStep}
use Rattle.sl_law_meaning.specs.declared.table.Weight.{Weight}
use Rattle.sl_law_meaning.specs.returns.Election.{Election}
use Rattle.sl_law_meaning.specs.book.Typing.{is_prefer}
use Rattle.sl_law_meaning.specs.methods.LeastHouse.{outside_minima}
use Rattle.sl_law_meaning.specs.laws.Ladders.{Ladders, divisor_ladders, hamilton_ladders}
use Rattle.sl_law_meaning.specs.meaning.Scopes.{same_item, cells, Group}
use Rattle.sl_law_meaning.specs.meaning.Records.{Records, seat_steps, quotient_mark, remainder_mark, tells_weights}
use Rattle.sl_law_meaning.specs.meaning.Splits.{Award, awarded}
use Rattle.sl_law_meaning.specs.meaning.Results.{Stand, amount_of}
use Rattle.sl_law_meaning.specs.meaning.Expressions.{minima_at, split_records, growth_records}
use Rattle.sl_law_meaning.specs.laws.MeaningLaws.{same_scope, same_seat, same_entry}
use Rattle.sl_law_meaning.proofs.meaning.DistinctLists.{always, every_weaker, every_pieces, every_zipped, Apart, distinct_nil, distinct_pieces, distinct_zipped}
use Rattle.sl_law_meaning.proofs.meaning.ScopeRecords.{same_group, StepAt, WeightAt, AtScope, Once, seats_at, seats_once, weights_are_at, weights_once}

-- ---- the records of a split and of a growth, in one scope

module _ (e : Election) (at : Stand) (amounts votes : List ℕ) where
  -- the seats by ladders, and these weights
  seats_of : (g : Group) (l : Ladders) (won_by : ℕ → ℕ → Mark) (s : List ℕ) (ws : List Weight) → Every (WeightAt at.stage g.scope) ws → (IsDistinct same_item g.entries → IsDistinct same_entry ws) →
      AtScope at.stage g (record { steps = seat_steps at.stage g.scope g.entries l won_by s; weights = ws })
  seats_of g l won_by s ws there once = record {
    steps = seats_at at.stage g.scope g.entries l won_by s;
    weights = there;
    once = λ differ. record { steps = seats_once at.stage g.scope g.entries l won_by s differ; weights = once differ };
  }

  pub split_at : (method : Method) (majority : Majority) (minima : Option (List ℕ)) (g : Group) (s : List ℕ) → AtScope at.stage g (split_records e at amounts votes method majority minima g s)
  split_at (by.Divisor d) majority minima g s =
      let v = cells e g.entries votes in
      let told = is_none minima && tells_weights d in
      seats_of g (divisor_ladders d v (minima_at e g votes minima)) (quotient_mark d v) s _
      (cond_both told _ [] (Every (WeightAt at.stage g.scope)) (λ told. weights_are_at at.stage g.scope g.entries d v) (λ none. tt))
      (λ differ. cond_both told _ [] (IsDistinct same_entry) (λ told. weights_once at.stage g.scope g.entries d v differ) (λ none. distinct_nil same_entry))
  split_at by.Hamilton majority minima g s =
      let v = cells e g.entries votes in
      let seats = amount_of e at amounts g in
      seats_of g (hamilton_ladders (is_prefer majority) v seats) (remainder_mark (is_prefer majority) v seats) s [] tt (λ differ. distinct_nil same_entry)

  pub growth_at : (d : Divisor) (minima : List ℕ) (g : Group) (s : List ℕ) → AtScope at.stage g (growth_records e at amounts votes d minima g s)
  growth_at d minima g s =
      let v = cells e g.entries votes in
      seats_of g (divisor_ladders d v (outside_minima v (cells e g.entries minima))) (quotient_mark d v) s [] tt (λ differ. distinct_nil same_entry)

-- ---- the records of a stage

pub record OfStage (stage : ℕ) (r : Records) : Type 0 where
  pub steps_at : Every (λ s. s.stage ≡ stage) r.steps
  pub weights_at : Every (λ w. w.stage ≡ stage) r.weights
  pub once : Once r

other_scope : (stage : ℕ) (g h : Scope) (x y : SeatStep) → same_scope g h ≡ false → StepAt stage g x → StepAt stage h y → same_seat x y ≡ false
other_scope stage g h x y differ at there =
    and_left (nat_eq x.stage y.stage && same_scope x.scope y.scope) _
    (and_right (nat_eq x.stage y.stage) (same_scope x.scope y.scope) (ap (λ z. same_scope z y.scope) at.scope_is ∙ ap (same_scope g) there.scope_is ∙ differ))

other_weight : (stage : ℕ) (g h : Scope) (x y : Weight) → same_scope g h ≡ false → WeightAt stage g x → WeightAt stage h y → same_entry x y ≡ false
other_weight stage g h x y differ at there =
    and_left (nat_eq x.stage y.stage && same_scope x.scope y.scope) _
    (and_right (nat_eq x.stage y.stage) (same_scope x.scope y.scope) (ap (λ z. same_scope z y.scope) at.scope_is ∙ ap (same_scope g) there.scope_is ∙ differ))

pub all_apart : {X : Type 0} (same : X → X → Bool) (P Q : X → Type 0) → ((x y : X) → P x → Q y → same x y ≡ false) → (xs ys : List X) → Every P xs → Every Q ys → Apart same xs ys
all_apart same P Q differ xs ys all more = every_weaker P (λ x. Every (λ y. same x y ≡ false) ys) (λ x p. every_weaker Q (λ y. same x y ≡ false) (λ y q. differ x y p q) ys more) xs all

module _ (stage : ℕ) (records : Group → List ℕ → Records) (at : (g : Group) (s : List ℕ) → AtScope stage g (records g s)) (groups : List Group) (awards : List Award)
    (differ : IsDistinct same_group groups) (distinct : Every (λ g. IsDistinct same_item g.entries) groups) where
  steps_in : Group × Award → List SeatStep
  steps_in x = (records x.0 (awarded x.1)).steps

  weights_in : Group × Award → List Weight
  weights_in x = (records x.0 (awarded x.1)).weights

  each_once : Every (λ x. IsDistinct same_item x.0.entries) (zip groups awards)
  each_once = every_zipped (λ g. IsDistinct same_item g.entries) groups awards distinct

  pub of_stage : OfStage stage (record { steps = flat_map (λ x. (records x.0 (awarded x.1)).steps) (zip groups awards); weights = flat_map (λ x. (records x.0 (awarded x.1)).weights) (zip groups awards) })
  unfolding steps_in weights_in
  of_stage = record {
    steps_at = every_pieces (λ s. s.stage ≡ stage) steps_in (zip groups awards)
        (always (λ x. Every (λ s. s.stage ≡ stage) (steps_in x)) (λ x. every_weaker (StepAt stage x.0.scope) (λ s. s.stage ≡ stage) (λ s h. h.stage_is) (steps_in x) (at x.0 (awarded x.1)).steps) (zip groups awards));
    weights_at = every_pieces (λ s. s.stage ≡ stage) weights_in (zip groups awards)
        (always (λ x. Every (λ s. s.stage ≡ stage) (weights_in x)) (λ x. every_weaker (WeightAt stage x.0.scope) (λ s. s.stage ≡ stage) (λ s h. h.stage_is) (weights_in x) (at x.0 (awarded x.1)).weights) (zip groups awards));
    once = record {
      steps = distinct_pieces same_seat (λ x y. same_group x.0 y.0) steps_in
          (λ x y other. all_apart same_seat (StepAt stage x.0.scope) (StepAt stage y.0.scope) (λ u v h k. other_scope stage x.0.scope y.0.scope u v other h k) (steps_in x) (steps_in y) (at x.0 (awarded x.1)).steps (at y.0 (awarded y.1)).steps)
          (zip groups awards) (every_weaker (λ x. IsDistinct same_item x.0.entries) (λ x. IsDistinct same_seat (steps_in x)) (λ x d. ((at x.0 (awarded x.1)).once d).steps) (zip groups awards) each_once)
          (distinct_zipped same_group groups awards differ);
      weights = distinct_pieces same_entry (λ x y. same_group x.0 y.0) weights_in
          (λ x y other. all_apart same_entry (WeightAt stage x.0.scope) (WeightAt stage y.0.scope) (λ u v h k. other_weight stage x.0.scope y.0.scope u v other h k) (weights_in x) (weights_in y) (at x.0 (awarded x.1)).weights (at y.0 (awarded y.1)).weights)
          (zip groups awards) (every_weaker (λ x. IsDistinct same_item x.0.entries) (λ x. IsDistinct same_entry (weights_in x)) (λ x d. ((at x.0 (awarded x.1)).once d).weights) (zip groups awards) each_once)
          (distinct_zipped same_group groups awards differ);
    };
  }
