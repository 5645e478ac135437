-- Numbers of a list's elements, taken one after another while they are within a limit.
use Rattle.std.proofs.Common.{◌≡◌, ℕ, ◌+◌, ◌<◌, ◌≤◌, List, [], ◌∷◌, ◌++◌, length, map, take, get_or, sym, subst, ◌∙◌, arith}
use Rattle.std.specs.List.{All}
use Rattle.std.proofs.lemmas.List.{get_or-map, take_more}
use Rattle.std.proofs.lemmas.List.Elements.{All-get_or, All-push}
use Rattle.sl_count_texts.proofs.Lists.{mapped_within}

module _ {A : Type 0} (f : A → ℕ) (limit : ℕ) (xs : List A) (i : ℕ) (d : A) (within : i < length xs) where
  pub one_past : limit < f (get_or xs i d) → ¬ All (λ s. s ≤ limit) (map f xs)
  one_past past all =
      let small : f (get_or xs i d) ≤ limit = subst (λ s. s ≤ limit) (get_or-map f xs i d 0 within) (All-get_or (λ s. s ≤ limit) (map f xs) i 0 (mapped_within f xs i within) all) in
      omega (arith, past, small)

  module _ (numbers more : List ℕ) (s : ℕ) (is : s ≡ f (get_or xs i d)) (pushed : more ≡ numbers ++ s ∷ []) where
    pub numbers_more : numbers ≡ take i (map f xs) → more ≡ take (i + 1) (map f xs)
    numbers_more taken =
        pushed ∙ (λ j. taken j ++ (is ∙ sym (get_or-map f xs i d 0 within)) j ∷ []) ∙ sym (take_more (map f xs) i 0 (mapped_within f xs i within))

    pub small_more : s ≤ limit → All (λ n. n ≤ limit) numbers → All (λ n. n ≤ limit) more
    small_more small all = subst (All (λ n. n ≤ limit)) (sym pushed) (All-push (λ n. n ≤ limit) numbers s all small)
