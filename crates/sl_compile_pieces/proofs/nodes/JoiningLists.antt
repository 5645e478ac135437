-- Lists that are gone through element by element, and what was found beside each element so far.
use Rattle.std.proofs.Common.{◌≡◌, ◌⊎◌, ℕ, zero, suc, ◌+◌, ◌≤◌, List, [], ◌∷◌, ◌++◌, length, take, drop, Some, slice_get, refl, sym, ap, subst, ◌∙◌, inl, inr, arith}
use Rattle.std.specs.Prelude.{zip}
use Rattle.std.specs.List.{AllByRecursion as Every, AllZip}
use Rattle.std.proofs.lemmas.Option.{none-some, same_Some}
use Rattle.sl_law_meaning.proofs.meaning.DistinctLists.{every_append}

module _ {X : Type 0} where
  -- ---- the first elements, and the one after them

  pub split_there : (xs : List X) (j : ℕ) (x : X) → slice_get xs j ≡ Some x → xs ≡ take j xs ++ x ∷ drop (suc j) xs
  split_there [] j x at = absurd (none-some x at)
  split_there (y ∷ ys) zero x at = ap (λ z. z ∷ ys) (same_Some y x at)
  split_there (y ∷ ys) (suc j) x at = ap (λ zs. y ∷ zs) (split_there ys j x at)

  first_more : (P : X → Type 0) (xs : List X) (j : ℕ) (x : X) → slice_get xs j ≡ Some x → Every P (take j xs) → P x → Every P (take (suc j) xs)
  first_more P [] j x at all more = absurd (none-some x at)
  first_more P (y ∷ ys) zero x at all more = (subst P (sym (same_Some y x at)) more, tt)
  first_more P (y ∷ ys) (suc j) x at all more = (all.0, first_more P ys j x at all.1 more)

  pub one_further : (P : X → Type 0) (xs : List X) (j : ℕ) (x : X) → slice_get xs j ≡ Some x → Every P (take j xs) → P x → Every P (take (j + 1) xs)
  one_further P xs j x at all more = let next : suc j ≡ j + 1 = omega arith in subst (λ (n : ℕ). Every P (take n xs)) next (first_more P xs j x at all more)

  -- ---- places

  pub every_of_places : (P : X → Type 0) (xs : List X) → ((j : ℕ) (x : X) → slice_get xs j ≡ Some x → P x) → Every P xs
  every_of_places P [] each = tt
  every_of_places P (x ∷ xs) each = (each 0 x refl, every_of_places P xs (λ j y at. each (suc j) y at))

  pub pushed_there : (xs : List X) (y : X) (j : ℕ) (x : X) → slice_get (xs ++ y ∷ []) j ≡ Some x → (slice_get xs j ≡ Some x) ⊎ ((j ≡ length xs) × (y ≡ x))
  pushed_there [] y zero x at = inr (refl, same_Some y x at)
  pushed_there [] y (suc j) x at = absurd (none-some x at)
  pushed_there (z ∷ zs) y zero x at = inl at
  pushed_there (z ∷ zs) y (suc j) x at = elim (pushed_there zs y j x at) [ inl before ↦ inl before | inr last ↦ inr (ap suc last.0, last.1) ]

  -- an element of which P holds, with its place
  pub record Somewhere (P : X → Type 0) (xs : List X) : Type 0 where
    pub number : ℕ
    pub element : X
    pub there : slice_get xs number ≡ Some element
    pub holds : P element

  -- it is found, or there is none
  pub somewhere_or_not : (P : X → Type 0) → ((x : X) → P x ⊎ (P x → ⊥)) → (xs : List X) → Somewhere P xs ⊎ (Somewhere P xs → ⊥)
  somewhere_or_not P test [] = inr (λ h. none-some h.element h.there)
  somewhere_or_not P test (x ∷ xs) =
      elim (test x) [
        | inl here ↦ inl (record { number = 0; element = x; there = refl; holds = here })
        | inr other ↦ elim (somewhere_or_not P test xs) [
          | inl later ↦ inl (record { number = suc later.number; element = later.element; there = later.there; holds = later.holds })
          | inr never ↦ inr (λ h. nowhere other never h.number h.element h.there h.holds)
        ]
      ]
    where
      nowhere : (P x → ⊥) → (Somewhere P xs → ⊥) → (j : ℕ) (y : X) → slice_get (x ∷ xs) j ≡ Some y → P y → ⊥
      nowhere other never zero y at holds = other (subst P (sym (same_Some x y at)) holds)
      nowhere other never (suc j) y at holds = never (record { number = j; element = y; there = at; holds = holds })

-- ---- what stands beside the first elements

module _ {X Y : Type 0} where
  pub zip_none : (xs : List X) → zip {K = X} {X = Y} xs [] ≡ []
  zip_none [] = refl
  zip_none (x ∷ xs) = refl

  pub zip_push : (xs : List X) (ys : List Y) (x : X) (y : Y) → slice_get xs (length ys) ≡ Some x → zip xs (ys ++ y ∷ []) ≡ zip xs ys ++ (x, y) ∷ []
  zip_push [] ys x y at = absurd (none-some x at)
  zip_push (z ∷ zs) [] x y at = ap (λ ps. (z, y) ∷ ps) (zip_none zs) ∙ ap (λ w. (w, y) ∷ []) (same_Some z x at)
  zip_push (z ∷ zs) (v ∷ vs) x y at = ap (λ ps. (z, v) ∷ ps) (zip_push zs vs x y at)

  module _ (R : X → Y → Type 0) where
    abbrev pub EachPair : List X → List Y → Type 0
    EachPair xs ys = Every (λ z. R z.0 z.1) (zip xs ys)

    pub no_pairs : (xs : List X) → EachPair xs []
    no_pairs xs = subst (Every (λ z. R z.0 z.1)) (sym (zip_none xs)) tt

    pub pairs_push : (xs : List X) (ys : List Y) (x : X) (y : Y) → slice_get xs (length ys) ≡ Some x → EachPair xs ys → R x y → EachPair xs (ys ++ y ∷ [])
    pairs_push xs ys x y at all more =
        let P : X × Y → Type 0 = λ z. R z.0 z.1 in
        subst (Every P) (sym (zip_push xs ys x y at)) (every_append P (zip xs ys) ((x, y) ∷ []) all (more, tt))

    -- where there are as many, each has one beside it
    pub all_paired : (xs : List X) (ys : List Y) → length ys ≡ length xs → EachPair xs ys → AllZip R xs ys
    all_paired [] [] long all = tt
    all_paired (x ∷ xs) (y ∷ ys) long all = (all.0, all_paired xs ys (omega (arith, long)) all.1)
    all_paired _ _ long all = absurd (omega (arith, long))

    -- where each can have one, those that have none get one
    pub completed : ((x : X) → (y : Y) × R x y) → (xs : List X) (ys : List Y) → length ys ≤ length xs → EachPair xs ys → (rest : List Y) × AllZip R xs (ys ++ rest)
    completed choose [] [] within all = ([], tt)
    completed choose [] (y ∷ ys) within all = absurd (omega (arith, within))
    completed choose (x ∷ xs) [] within all =
        let rest = completed choose xs [] (omega arith) (no_pairs xs) in
        ((choose x).0 ∷ rest.0, ((choose x).1, rest.1))
    completed choose (x ∷ xs) (y ∷ ys) within all = let rest = completed choose xs ys (omega (arith, within)) all.1 in (rest.0, (all.0, rest.1))
