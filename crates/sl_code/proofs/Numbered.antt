-- Loops that write the piece of one element after another.
use Rattle.std.proofs.Common.{◌≡◌, ℕ, ◌+◌, ◌<◌, ◌≤◌, List, [], ◌++◌, length, take, flat_map, get_or, sym, ap, ◌∙◌, arith, zero-add}
use Rattle.std.specs.List.{enumerate_from}
use Rattle.std.proofs.lemmas.List.{take_more, take_all, flat_map_more}
use Rattle.std.proofs.lemmas.List.FromFn.{length-enumerate_from, get_or-enumerate_from}

module _ {X : Type 0} (f : X → List ℕ) (xs : List X) where
  -- the piece of one more element
  pub more_written : (i : ℕ) (d : X) (start now next : List ℕ) → i < length xs → now ≡ start ++ flat_map f (take i xs) → next ≡ now ++ f (get_or xs i d) → next ≡ start ++ flat_map f (take (i + 1) xs)
  more_written i d start now next within so_far written =
      written ∙ ap (λ t. t ++ f (get_or xs i d)) so_far ∙ flat_map_more f start (take i xs) (get_or xs i d) ∙ ap (λ ys. start ++ flat_map f ys) (sym (take_more xs i d within))

-- numbered elements
module _ {X : Type 0} (f : ℕ × X → List ℕ) (xs : List X) where
  -- the piece of one more element
  pub numbered_more : (i : ℕ) (x : X) (now next : List ℕ) → i < length xs → get_or xs i x ≡ x → now ≡ flat_map f (take i (enumerate_from 0 xs)) → next ≡ now ++ f (i, x)
      → next ≡ flat_map f (take (i + 1) (enumerate_from 0 xs))
  numbered_more i x now next within here so_far written =
      let entries : List (ℕ × X) = enumerate_from 0 xs in
      let inside : i < length entries = omega (arith, length-enumerate_from 0 xs) in
      let entry : get_or entries i (i, x) ≡ (i, x) = get_or-enumerate_from 0 xs i (i, x) within ∙ ap (λ n. (n, get_or xs i x)) (zero-add i) ∙ ap (λ y. (i, y)) here in
      more_written f entries i (i, x) [] now next inside so_far (written ∙ ap (λ y. now ++ f y) (sym entry))

  -- the pieces of all
  pub numbered_all : (i : ℕ) (now : List ℕ) → length xs ≤ i → now ≡ flat_map f (take i (enumerate_from 0 xs)) → now ≡ flat_map f (enumerate_from 0 xs)
  numbered_all i now past so_far =
      so_far ∙ ap (flat_map f) (take_all i (enumerate_from 0 xs) (omega (arith, length-enumerate_from 0 xs)))
