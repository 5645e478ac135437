-- Loops over the winners, each beside the place.
use Rattle.std.proofs.Common.{◌≡◌, ℕ, ◌<◌, ◌≤◌, List, length, take, get_or, slice_get, Some, ap, subst, ◌∙◌, arith}
use Rattle.std.specs.List.{zip}
use Rattle.std.proofs.lemmas.List.{get_or_default, take_all}
use Rattle.std.proofs.lemmas.Option.{slice_get_within, get_or_from_slice_get}
use Rattle.std.proofs.lemmas.Slice.Zip.{length-zip, get_or-zip}

-- the pair of a number
pub in_zip : {A B : Type 0} (ks : List A) (vs : List B) (i : ℕ) (k : A) → slice_get ks i ≡ Some k → i < length vs → i < length (zip ks vs)
in_zip ks vs i k key within = let first : i < length ks = slice_get_within ks i k key in omega (arith, length-zip ks vs)

module _ {A B : Type 0} (ks : List A) (vs : List B) (i : ℕ) (k : A) (d : B) (key : slice_get ks i ≡ Some k) (within : i < length vs) where
  pub pair_at : get_or (zip ks vs) i (k, get_or vs i d) ≡ (k, get_or vs i d)
  pair_at =
      let first : get_or ks i k ≡ k = get_or_from_slice_get ks i k k key in
      let second : get_or vs i (get_or vs i d) ≡ get_or vs i d = get_or_default vs i (get_or vs i d) d within in
      get_or-zip ks vs i (k, get_or vs i d) (slice_get_within ks i k key) within ∙ ap (λ x. (x, get_or vs i (get_or vs i d))) first ∙ ap (λ y. (k, y)) second

-- the pair of two that are known
pub pair_here : {A B : Type 0} (ks : List A) (vs : List B) (i : ℕ) (k : A) (v : B) → slice_get ks i ≡ Some k → slice_get vs i ≡ Some v → get_or (zip ks vs) i (k, v) ≡ (k, v)
pair_here ks vs i k v key at =
    subst (λ y. get_or (zip ks vs) i (k, y) ≡ (k, y)) (get_or_from_slice_get vs i v v at) (pair_at ks vs i k v key (slice_get_within vs i v at))

-- all pairs
pub all_pairs : {A B : Type 0} (ks : List A) (vs : List B) (i : ℕ) → length vs ≤ i → take i (zip ks vs) ≡ zip ks vs
all_pairs ks vs i past = take_all i (zip ks vs) (omega (arith, length-zip ks vs))
