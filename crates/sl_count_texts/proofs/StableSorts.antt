-- A stable sort by a test gives one list alone: that of insertion.
use Rattle.std.proofs.Common.{◌≡◌, ℕ, suc, ◌<◌, ◌≤◌, Bool, true, false, not, ◌&&◌, cond, List, [], ◌∷◌, length, map, drop, get_or, refl, sym, ap, subst, ◌∙◌, inl, inr, arith}
use Rattle.std.specs.Bool.{⊤}
use Rattle.std.specs.Cmp.{IsStrictWeakOrder}
use Rattle.std.specs.List.{filter}
use Rattle.std.specs.List.Sorted.{IsSortedBy, IsStableBy, ties}
use Rattle.std.proofs.lemmas.Bool.{cases_Bool, cond-true, cond-false, and_parts, not-true, true≢false}
use Rattle.std.proofs.lemmas.List.Sorted.{sorted_far}

module _ {X : Type 0} (lt : X → X → Bool) where
  -- an element among sorted ones, before those that tie with it
  abbrev pub inserted : X → List X → List X
  inserted x [] = x ∷ []
  inserted x (y ∷ ys) = cond (lt y x) (y ∷ inserted x ys) (x ∷ y ∷ ys)

  -- the elements sorted, those that tie as they stood
  abbrev pub sorted : List X → List X
  sorted [] = []
  sorted (x ∷ xs) = inserted x (sorted xs)

  -- no element is less than x; none is less than an earlier one
  abbrev Above : X → List X → Type 0
  Above x [] = ⊤
  Above x (y ∷ ys) = (lt y x ≡ false) × Above x ys

  abbrev Up : List X → Type 0
  Up [] = ⊤
  Up (x ∷ xs) = Above x xs × Up xs

  above_of : (x : X) (xs : List X) → ((k : ℕ) → k < length xs → lt (get_or xs k x) x ≡ false) → Above x xs
  above_of x [] h = tt
  above_of x (y ∷ ys) h = (h 0 (omega arith), above_of x ys (λ k p. h (suc k) (omega arith)))

  up_of : (xs : List X) → ((i j : ℕ) (d : X) → i ≤ j → j < length xs → lt (get_or xs j d) (get_or xs i d) ≡ false) → Up xs
  up_of [] h = tt
  up_of (x ∷ xs) h = (above_of x xs (λ k p. h 0 (suc k) x (omega arith) (omega arith)), up_of xs (λ i j d p q. h (suc i) (suc j) d (omega arith) (omega arith)))

  both_not : (a b : Bool) → a ≡ false → b ≡ false → (not a && not b) ≡ true
  both_not a b p q = λ i. not (p i) && not (q i)

  module _ (o : IsStrictWeakOrder lt) where
    not_less : (b : Bool) → (b ≡ true → b ≡ false) → b ≡ false
    not_less true h = h refl
    not_less false h = refl

    not_itself : (x : X) → lt x x ≡ false
    not_itself x = not_less (lt x x) (o.one_way x x)

    -- ---- insertion sorts

    above_further : (x y : X) (ys : List X) → lt y x ≡ false → Above y ys → Above x ys
    above_further x y [] h all = tt
    above_further x y (z ∷ zs) h all = (o.chain z y x all.0 h, above_further x y zs h all.1)

    above_inserted : (z x : X) (ys : List X) → lt x z ≡ false → Above z ys → Above z (inserted x ys)
    above_inserted z x [] h all = (h, tt)
    above_inserted z x (y ∷ ys) h all = elim (cases_Bool (lt y x)) [
      | inl less ↦ subst (Above z) (sym (cond-true _ _ _ less)) (all.0, above_inserted z x ys h all.1)
      | inr no_less ↦ subst (Above z) (sym (cond-false _ _ _ no_less)) (h, all)
    ]

    up_inserted : (x : X) (ys : List X) → Up ys → Up (inserted x ys)
    up_inserted x [] up = (tt, tt)
    up_inserted x (y ∷ ys) up = elim (cases_Bool (lt y x)) [
      | inl less ↦ subst Up (sym (cond-true _ _ _ less)) (above_inserted y x ys (o.one_way y x less) up.0, up_inserted x ys up.1)
      | inr no_less ↦ subst Up (sym (cond-false _ _ _ no_less)) ((no_less, above_further x y ys no_less up.0), up)
    ]

    up_sorted : (xs : List X) → Up (sorted xs)
    up_sorted [] = tt
    up_sorted (x ∷ xs) = up_inserted x (sorted xs) (up_sorted xs)

    -- ---- insertion keeps the order of those that tie
    apart : (z x y : X) → lt y x ≡ true → ties lt z y ≡ true → ties lt z x ≡ false
    apart z x y less tie = elim (cases_Bool (ties lt z x)) [
      | inl tie_too ↦
          let near : lt y z ≡ false = not-true (lt y z) (and_parts (not (lt z y)) (not (lt y z)) tie).1 in
          let near_too : lt z x ≡ false = not-true (lt z x) (and_parts (not (lt z x)) (not (lt x z)) tie_too).0 in
          absurd (true≢false (sym less ∙ o.chain y z x near near_too))
      | inr none ↦ none
    ]

    module _ (z : X) where
      abbrev tied : List X → List X
      tied = filter (ties lt z)

      -- x passes y, where one of them does not tie with z
      passes : (x y : X) (ys : List X) → lt y x ≡ true → tied (y ∷ x ∷ ys) ≡ tied (x ∷ y ∷ ys)
      passes x y ys less = elim (cases_Bool (ties lt z y)) [
        | inl tie ↦
            let other = apart z x y less tie in
            cond-true _ _ _ tie ∙ ap (λ l. y ∷ l) (cond-false _ _ _ other) ∙ sym (cond-false _ _ _ other ∙ cond-true _ _ _ tie)
        | inr other ↦ cond-false _ _ _ other ∙ ap (λ l. cond (ties lt z x) (x ∷ l) l) (sym (cond-false _ _ _ other))
      ]

      tied_inserted : (x : X) (ys : List X) → tied (inserted x ys) ≡ tied (x ∷ ys)
      tied_inserted x [] = refl
      tied_inserted x (y ∷ ys) = elim (cases_Bool (lt y x)) [
        | inl less ↦
            ap tied (cond-true _ _ _ less)
            ∙ ap (λ l. cond (ties lt z y) (y ∷ l) l) (tied_inserted x ys)
            ∙ passes x y ys less
        | inr no_less ↦ ap tied (cond-false _ _ _ no_less)
      ]

      tied_sorted : (xs : List X) → tied (sorted xs) ≡ tied xs
      tied_sorted [] = refl
      tied_sorted (x ∷ xs) = tied_inserted x (sorted xs) ∙ ap (λ l. cond (ties lt z x) (x ∷ l) l) (tied_sorted xs)

    -- ---- two sorted lists with the same elements that tie, for each element, are one list

    ties_itself : (x : X) → ties lt x x ≡ true
    ties_itself x = both_not (lt x x) (lt x x) (not_itself x) (not_itself x)

    -- the first of a sorted list is not greater than x, where an element ties with x
    no_greater : (x y : X) (ys : List X) → Above y ys → 0 < length (tied x ys) → lt x y ≡ false
    no_greater x y [] above some = absurd (omega (arith, some))
    no_greater x y (z ∷ zs) above some = elim (cases_Bool (ties lt x z)) [
      | inl tie ↦ o.chain x z y (not-true (lt x z) (and_parts (not (lt x z)) (not (lt z x)) tie).0) above.0
      | inr other ↦ no_greater x y zs above.1 (subst (λ l. 0 < length l) (cond-false _ _ _ other) some)
    ]

    with_itself : (x : X) (xs : List X) → tied x (x ∷ xs) ≡ x ∷ tied x xs
    with_itself x xs = cond-true _ _ _ (ties_itself x)

    first_no_greater : (x : X) (xs : List X) (y : X) (ys : List X) → Up (y ∷ ys) → tied x (x ∷ xs) ≡ tied x (y ∷ ys) → lt x y ≡ false
    first_no_greater x xs y ys up same =
        no_greater x y (y ∷ ys) (not_itself y, up.0) (subst (λ l. 0 < length l) (sym (with_itself x xs) ∙ same) (omega arith))

    same_tail : (z x : X) (xs ys : List X) → tied z (x ∷ xs) ≡ tied z (x ∷ ys) → tied z xs ≡ tied z ys
    same_tail z x xs ys same = elim (cases_Bool (ties lt z x)) [
      | inl tie ↦ ap (drop 1) (sym (cond-true _ _ _ tie) ∙ same ∙ cond-true _ _ _ tie)
      | inr other ↦ sym (cond-false _ _ _ other) ∙ same ∙ cond-false _ _ _ other
    ]

    one_list : (xs ys : List X) → Up xs → Up ys → ((z : X) → tied z xs ≡ tied z ys) → xs ≡ ys
    one_list [] [] up up_too same = refl
    one_list [] (y ∷ ys) up up_too same = absurd (omega (arith, ap length (same y ∙ with_itself y ys)))
    one_list (x ∷ xs) [] up up_too same = absurd (omega (arith, ap length (sym (same x) ∙ with_itself x xs)))
    one_list (x ∷ xs) (y ∷ ys) up up_too same =
        let level : ties lt x y ≡ true = both_not (lt x y) (lt y x) (first_no_greater x xs y ys up_too (same x)) (first_no_greater y ys x xs up (sym (same y))) in
        let first : x ≡ y = ap (λ l. get_or l 0 x) (sym (with_itself x xs) ∙ same x ∙ cond-true _ _ _ level) in
        let rest : xs ≡ ys = one_list xs ys up.1 up_too.1 (λ z. same_tail z x xs ys (same z ∙ ap (λ a. tied z (a ∷ ys)) (sym first))) in
        ap (λ a. a ∷ xs) first ∙ ap (λ l. y ∷ l) rest

    -- what a stable sort gives
    pub stable_sort : (xs ys : List X) → IsSortedBy lt ys → IsStableBy lt xs ys → ys ≡ sorted xs
    stable_sort xs ys up stable =
        one_list ys (sorted xs) (up_of ys (sorted_far lt o ys up)) (up_sorted xs) (λ z. stable z ∙ sym (tied_sorted z xs))

    -- lists with the same elements that tie, for each element, give one sorted list
    pub same_sorted : (xs ys : List X) → ((z : X) → tied z xs ≡ tied z ys) → sorted xs ≡ sorted ys
    same_sorted xs ys same = one_list (sorted xs) (sorted ys) (up_sorted xs) (up_sorted ys) (λ z. tied_sorted z xs ∙ same z ∙ sym (tied_sorted z ys))

-- insertion by a test of what a function gives, seen through the function
module _ {X Y : Type 0} (f : X → Y) (lt : Y → Y → Bool) where
  abbrev through : X → X → Bool
  through x y = lt (f x) (f y)

  map-inserted : (x : X) (ys : List X) → map f (inserted through x ys) ≡ inserted lt (f x) (map f ys)
  map-inserted x [] = refl
  map-inserted x (y ∷ ys) = elim (cases_Bool (through y x)) [
    | inl less ↦ ap (map f) (cond-true _ _ _ less) ∙ ap (λ l. f y ∷ l) (map-inserted x ys) ∙ sym (cond-true _ _ _ less)
    | inr no_less ↦ ap (map f) (cond-false _ _ _ no_less) ∙ sym (cond-false _ _ _ no_less)
  ]

  pub map-sorted : (xs : List X) → map f (sorted through xs) ≡ sorted lt (map f xs)
  map-sorted [] = refl
  map-sorted (x ∷ xs) = map-inserted x (sorted through xs) ∙ ap (inserted lt (f x)) (map-sorted xs)
