-- Weights for which bounds are given are in the range that bounds ask.
use Rattle.std.proofs.Common.{◌≡◌, ℕ, ◌≤◌, List, map, sym, subst}
use Rattle.std.specs.List.{All}
use Rattle.std.proofs.lemmas.List.Elements.{All-map, All-weaker}
use Rattle.sl_base_quotients.specs.declared.limits.TheConstants.{MAX_WEIGHT}
use Rattle.sl_base_quotients.specs.declared.method.Divisor.{Divisor}
use Rattle.sl_law_meaning.specs.declared.table.Weight.{Weight}
use Rattle.sl_count_texts.specs.Bounds.{IsBoundsWeight}

module _ (method : Divisor) (ws : List Weight) (numbers : List ℕ) (are : numbers ≡ map (λ w. w.weight) ws) (told : All (IsBoundsWeight method) ws) where
  pub positive_weights : All (λ v. 1 ≤ v) numbers
  positive_weights = subst (All (λ v. 1 ≤ v)) (sym are) (All-map (λ v. 1 ≤ v) (λ w. w.weight) ws (All-weaker (IsBoundsWeight method) (λ w. 1 ≤ w.weight) (λ w h. h.positive) ws told))

  pub limited_weights : All (λ v. v ≤ MAX_WEIGHT) numbers
  limited_weights = subst (All (λ v. v ≤ MAX_WEIGHT)) (sym are) (All-map (λ v. v ≤ MAX_WEIGHT) (λ w. w.weight) ws (All-weaker (IsBoundsWeight method) (λ w. w.weight ≤ MAX_WEIGHT) (λ w h. h.limit) ws told))
