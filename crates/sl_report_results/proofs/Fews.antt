-- Entries whose numbers are within the limits.
use Rattle.std.proofs.Common.{◌≡◌, ℕ, zero, suc, ◌≤◌, List, [], ◌∷◌, map, arith, sym, subst}
use Rattle.std.specs.List.{All}
use Rattle.sl_base_quotients.specs.declared.limits.TheConstants.{MAX_SEATS, MAX_WEIGHT}
use Rattle.sl_report_results.specs.Scopes.{IsFew, held_of, weights_of}
use Rattle.sl_report_results.specs.declared.scopes.Entry.{Entry}

all_map : {X Y : Type 0} (f : X → Y) (P : Y → Type 0) (xs : List X) → All (λ x. P (f x)) xs → All P (map f xs)
all_map f P [] h i d less = absurd (omega (arith, less))
all_map f P (x ∷ xs) h zero d less = h 0 x (omega arith)
all_map f P (x ∷ xs) h (suc i) d less = all_map f P xs (λ k e below. h (suc k) e (omega (arith, below))) i d (omega (arith, less))

module _ (xs : List Entry) (few : All IsFew xs) where
  pub few_weights : (given : List ℕ) → given ≡ weights_of xs → All (λ v. v ≤ MAX_WEIGHT) given
  few_weights given is = subst (All (λ v. v ≤ MAX_WEIGHT)) (sym is) (all_map (λ x. x.weight) (λ v. v ≤ MAX_WEIGHT) xs (λ i d less. (few i d less).0))

  pub few_seats : (given : List ℕ) → given ≡ held_of xs → All (λ s. s ≤ MAX_SEATS) given
  few_seats given is = subst (All (λ s. s ≤ MAX_SEATS)) (sym is) (all_map (λ x. x.seats) (λ s. s ≤ MAX_SEATS) xs (λ i d less. (few i d less).1))
