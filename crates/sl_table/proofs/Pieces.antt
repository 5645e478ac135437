-- Lists made over the numbers from 0, one number more.
use Rattle.std.proofs.Common.{◌≡◌, ℕ, ◌+◌, Bool, true, false, cond, List, [], ◌∷◌, ◌++◌, map, sym, ap, ◌∙◌, arith, append_assoc}
use Rattle.std.specs.List.{flat_map, filter, range_with_len}
use Rattle.std.proofs.lemmas.List.{map-id, map_push, append-nil}
use Rattle.std.proofs.lemmas.List.Concat.{flat_map-append}
use Rattle.std.proofs.lemmas.List.Elements.{filter-append}
use Rattle.std.proofs.lemmas.List.FromFn.{map-range_with_len_more}

-- one number more
range_more : (n : ℕ) → range_with_len 0 (n + 1) ≡ range_with_len 0 n ++ n ∷ []
range_more n = sym (map-id (range_with_len 0 (n + 1))) ∙ map-range_with_len_more (λ k. k) 0 n n (omega arith) ∙ ap (λ xs. xs ++ n ∷ []) (map-id (range_with_len 0 n))

flat_map_range_more : {X : Type 0} (f : ℕ → List X) (n : ℕ) → flat_map f (range_with_len 0 (n + 1)) ≡ flat_map f (range_with_len 0 n) ++ f n
flat_map_range_more f n = ap (flat_map f) (range_more n) ∙ flat_map-append f (range_with_len 0 n) (n ∷ []) ∙ ap (λ xs. flat_map f (range_with_len 0 n) ++ xs) (append-nil (f n))

-- one piece more
pub pieces_more : {X : Type 0} (f : ℕ → List X) (n : ℕ) (xs ys : List X) → xs ≡ flat_map f (range_with_len 0 n) → ys ≡ xs ++ f n → ys ≡ flat_map f (range_with_len 0 (n + 1))
pieces_more f n xs ys so_far joined = joined ∙ ap (λ zs. zs ++ f n) so_far ∙ sym (flat_map_range_more f n)

-- one number more, of those that pass a test
filter_range_more : (p : ℕ → Bool) (n : ℕ) → filter p (range_with_len 0 (n + 1)) ≡ filter p (range_with_len 0 n) ++ filter p (n ∷ [])
filter_range_more p n = ap (filter p) (range_more n) ∙ filter-append p (range_with_len 0 n) (n ∷ [])

module _ {X : Type 0} (f : ℕ → X) (p : ℕ → Bool) (n : ℕ) (front xs ys : List X) (so_far : xs ≡ front ++ map f (filter p (range_with_len 0 n))) where
  pub kept_more : (x : X) → p n ≡ true → ys ≡ xs ++ x ∷ [] → x ≡ f n → ys ≡ front ++ map f (filter p (range_with_len 0 (n + 1)))
  kept_more x passes pushed here =
      let last : filter p (n ∷ []) ≡ n ∷ [] = ap (λ b. cond b (n ∷ []) []) passes in
      pushed ∙ ap (λ zs. zs ++ x ∷ []) so_far ∙ append_assoc front (map f (filter p (range_with_len 0 n))) (x ∷ [])
      ∙ ap (λ zs. front ++ zs) (ap (λ y. map f (filter p (range_with_len 0 n)) ++ y ∷ []) here ∙ sym (map_push f (filter p (range_with_len 0 n)) n) ∙ ap (map f) (ap (λ zs. filter p (range_with_len 0 n) ++ zs) (sym last) ∙ sym (filter_range_more p n)))

  pub kept_same : p n ≡ false → ys ≡ xs → ys ≡ front ++ map f (filter p (range_with_len 0 (n + 1)))
  kept_same fails unchanged =
      let last : filter p (n ∷ []) ≡ [] = ap (λ b. cond b (n ∷ []) []) fails in
      unchanged ∙ so_far
      ∙ ap (λ zs. front ++ map f zs) (sym (append-nil (filter p (range_with_len 0 n))) ∙ ap (λ zs. filter p (range_with_len 0 n) ++ zs) (sym last) ∙ sym (filter_range_more p n))
