-- Loops that write the lines of one element after another.
use Rattle.std.proofs.Common.{◌≡◌, ℕ, ◌+◌, ◌<◌, ◌≤◌, false, List, [], ◌∷◌, ◌++◌, length, take, flat_map, get_or, sym, ap, ◌∙◌}
use Rattle.std.proofs.lemmas.List.{take_more, take_all, flat_map_more}
use Rattle.sl_count_texts.specs.Lines.{Draft, with_lines}

module _ {X : Type 0} (f : X → List ℕ) (d : Draft) (xs : List X) where
  -- the lines of one more element
  pub lines_more : (i : ℕ) (x : X) (now next : Draft) → i < length xs → get_or xs i x ≡ x → now ≡ with_lines d (flat_map f (take i xs)) → next ≡ with_lines now (f x)
      → next ≡ with_lines d (flat_map f (take (i + 1) xs))
  lines_more i x now next within here so_far written =
      let more : take (i + 1) xs ≡ take i xs ++ x ∷ [] = take_more xs i x within ∙ ap (λ y. take i xs ++ y ∷ []) here in
      let joined : with_lines (with_lines d (flat_map f (take i xs))) (f x) ≡ with_lines d (flat_map f (take i xs ++ x ∷ [])) = ap (λ bytes. record { bytes = bytes; begun = false }) (flat_map_more f d.bytes (take i xs) x) in
      written ∙ ap (λ t. with_lines t (f x)) so_far ∙ joined ∙ ap (λ ys. with_lines d (flat_map f ys)) (sym more)

  -- the lines of all
  pub lines_all : (i : ℕ) (now : Draft) → length xs ≤ i → now ≡ with_lines d (flat_map f (take i xs)) → now ≡ with_lines d (flat_map f xs)
  lines_all i now past so_far = so_far ∙ ap (λ ys. with_lines d (flat_map f ys)) (take_all i xs past)
