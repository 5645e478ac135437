-- A list in groups, as a slice's `chunk_by` parts it.
use Rattle.std.proofs.Common.{◌≡◌, ℕ, suc, ◌<◌, Bool, true, false, List, [], ◌∷◌, ◌++◌, length, map, get_or, refl, sym, ap, subst, ◌∙◌, inl, inr, arith}
use Rattle.std.specs.List.{All}
use Rattle.std.proofs.lemmas.List.Elements.{All-nil, All-cons, All-head, All-tail}
use Rattle.std.proofs.lemmas.Bool.{cases_Bool, cond-true, cond-false}
use Rattle.sl_count_texts.specs.Bounds.{before_groups, groups}

module _ {A : Type 0} (together : A → A → Bool) where
  -- what stands before groups begins the first of them
  begins : (b : A) (parts : List (List A)) → (ys : List A) × (more : List (List A)) × (before_groups together b parts ≡ (b ∷ ys) ∷ more)
  begins b [] = ([], [], refl)
  begins b ([] ∷ parts) = ([], [] ∷ parts, refl)
  begins b ((y ∷ ys) ∷ parts) = elim (cases_Bool (together b y)) [
    | inl with_it ↦ (y ∷ ys, parts, cond-true _ _ _ with_it)
    | inr apart ↦ ([], (y ∷ ys) ∷ parts, cond-false _ _ _ apart)
  ]

  -- the first group: each of its elements goes with the next, and the last of them does not go with what follows
  pub first_group : (a : A) (xs rest : List A)
      → ((k : ℕ) (d : A) → k < length xs → together (get_or (a ∷ xs ++ rest) k d) (get_or (a ∷ xs ++ rest) (suc k) d) ≡ true)
      → (0 < length rest → (d : A) → together (get_or (a ∷ xs ++ rest) (length xs) d) (get_or (a ∷ xs ++ rest) (suc (length xs)) d) ≡ false)
      → groups together (a ∷ xs ++ rest) ≡ (a ∷ xs) ∷ groups together rest
  first_group a [] [] near far = refl
  first_group a [] (b ∷ rest) near far =
      let next = begins b (groups together rest) in
      ap (before_groups together a) next.2 ∙ cond-false _ _ _ (far (omega arith) a) ∙ ap (λ parts. (a ∷ []) ∷ parts) (sym next.2)
  first_group a (b ∷ xs) rest near far =
      ap (before_groups together a) (first_group b xs rest (λ k d l. near (suc k) d (omega arith)) far)
      ∙ cond-true _ _ _ (near 0 a (omega arith))

  -- what holds of each element holds of those of each group
  module _ (P : A → Type 0) where
    All-before_groups : (x : A) (parts : List (List A)) → P x → All (All P) parts → All (All P) (before_groups together x parts)
    All-before_groups x [] one all = All-cons (All P) (x ∷ []) [] (All-cons P x [] one (All-nil P)) all
    All-before_groups x ([] ∷ parts) one all = All-cons (All P) (x ∷ []) ([] ∷ parts) (All-cons P x [] one (All-nil P)) all
    All-before_groups x ((y ∷ ys) ∷ parts) one all = elim (cases_Bool (together x y)) [
      | inl with_it ↦ subst (All (All P)) (sym (cond-true _ _ _ with_it)) (All-cons (All P) (x ∷ y ∷ ys) parts (All-cons P x (y ∷ ys) one (All-head (All P) (y ∷ ys) parts all)) (All-tail (All P) (y ∷ ys) parts all))
      | inr apart ↦ subst (All (All P)) (sym (cond-false _ _ _ apart)) (All-cons (All P) (x ∷ []) ((y ∷ ys) ∷ parts) (All-cons P x [] one (All-nil P)) all)
    ]

    pub All-groups : (xs : List A) → All P xs → All (All P) (groups together xs)
    All-groups [] all = All-nil (All P)
    All-groups (x ∷ xs) all = All-before_groups x (groups together xs) (All-head P x xs all) (All-groups xs (All-tail P x xs all))

-- groups of elements that a function is seen through
module _ {A B : Type 0} (f : A → B) (together : B → B → Bool) where
  abbrev through : A → A → Bool
  through x y = together (f x) (f y)

  map-before_groups : (x : A) (parts : List (List A)) → map (map f) (before_groups through x parts) ≡ before_groups together (f x) (map (map f) parts)
  map-before_groups x [] = refl
  map-before_groups x ([] ∷ parts) = refl
  map-before_groups x ((y ∷ ys) ∷ parts) = elim (cases_Bool (through x y)) [
    | inl with_it ↦ ap (map (map f)) (cond-true _ _ _ with_it) ∙ sym (cond-true _ _ _ with_it)
    | inr apart ↦ ap (map (map f)) (cond-false _ _ _ apart) ∙ sym (cond-false _ _ _ apart)
  ]

  pub map-groups : (xs : List A) → map (map f) (groups through xs) ≡ groups together (map f xs)
  map-groups [] = refl
  map-groups (x ∷ xs) = map-before_groups x (groups through xs) ∙ ap (before_groups together (f x)) (map-groups xs)
