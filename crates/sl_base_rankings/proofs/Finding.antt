-- What is among the elements of a list, and what a search finds there.
use Rattle.std.proofs.Common.{◌≡◌, ℕ, zero, suc, ◌+◌, ◌<◌, ◌⊎◌, ◌&&◌, Bool, true, false, cond, List, [], ◌∷◌, ◌++◌, length, Some, slice_get, All, Contains, count_by, refl, sym, ap, subst, ◌∙◌, inl, inr, arith}
use Rattle.std.specs.List.{find, filter, list_any}
use Rattle.std.proofs.Math.Bool.{or-true}
use Rattle.std.proofs.lemmas.Bool.{cases_Bool}
use Rattle.std.proofs.lemmas.List.Sums.{sum_by-cons}
use Rattle.std.proofs.lemmas.Option.{same_Some, slice_get_within, get_or_from_slice_get}

module _ {X : Type 0} where
  pub Contains-head : (x : X) (xs : List X) → Contains (x ∷ xs) x
  Contains-head x xs = (0, omega arith, refl)

  pub Contains-tail : (x : X) (xs : List X) (y : X) → Contains xs y → Contains (x ∷ xs) y
  Contains-tail x xs y h = (suc h.0, (let l : h.0 < length xs = h.1 in omega arith), h.2)

  pub Contains-cases : (x : X) (xs : List X) (y : X) → Contains (x ∷ xs) y → (x ≡ y) ⊎ Contains xs y
  Contains-cases x xs y (zero, l, e) = inl e
  Contains-cases x xs y (suc k, l, e) = inr (k, omega arith, e)

  pub Contains-none : (x : X) → Contains [] x → ⊥
  Contains-none x h = let l : h.0 < 0 = h.1 in omega arith

  pub Contains-append_left : (xs ys : List X) (x : X) → Contains xs x → Contains (xs ++ ys) x
  Contains-append_left [] ys x h = absurd (Contains-none x h)
  Contains-append_left (z ∷ zs) ys x h = elim (Contains-cases z zs x h) [
    | inl e ↦ subst (λ (w : X). Contains (z ∷ (zs ++ ys)) w) e (Contains-head z (zs ++ ys))
    | inr k ↦ Contains-tail z (zs ++ ys) x (Contains-append_left zs ys x k)
  ]

  pub Contains-append_right : (xs ys : List X) (x : X) → Contains ys x → Contains (xs ++ ys) x
  Contains-append_right [] ys x h = h
  Contains-append_right (z ∷ zs) ys x h = Contains-tail z (zs ++ ys) x (Contains-append_right zs ys x h)

  pub All-at : (P : X → Type 0) (xs : List X) (x : X) → All P xs → Contains xs x → P x
  All-at P xs x all h = subst P h.2 (all h.0 x h.1)

  pub slice_get-Contains : (xs : List X) (i : ℕ) (x : X) → slice_get xs i ≡ Some x → Contains xs x
  slice_get-Contains xs i x h = (i, slice_get_within xs i x h, get_or_from_slice_get xs i x x h)

module _ {X : Type 0} (p : X → Bool) where
  pub find-Some : (xs : List X) (x : X) → find p xs ≡ Some x → Contains xs x × (p x ≡ true)
  find-Some [] x h = cc
  find-Some (y ∷ ys) x h =
      elim (cases_Bool (p y)) [
        | inl t ↦
            let e : y ≡ x = same_Some y x (sym (rw t refl) ∙ h) in
            (subst (λ (z : X). Contains (y ∷ ys) z) e (Contains-head y ys), subst (λ (z : X). p z ≡ true) e t)
        | inr f ↦
            let r = find-Some ys x (sym (rw f refl) ∙ h) in
            (Contains-tail y ys x r.0, r.1)
      ]

  pub find-only : (xs : List X) (x : X) → Contains xs x → p x ≡ true → ((y : X) → Contains xs y → p y ≡ true → y ≡ x) → find p xs ≡ Some x
  find-only [] x h t only = absurd (Contains-none x h)
  find-only (y ∷ ys) x h t only =
      elim (cases_Bool (p y)) [
        | inl u ↦ rw u (ap Some (only y (Contains-head y ys) u))
        | inr f ↦ rw f (elim (Contains-cases y ys x h) [
          | inl e ↦ cc
          | inr k ↦ find-only ys x k t (λ z c u. only z (Contains-tail y ys z c) u)
        ])
      ]

  pub any-at : (xs : List X) (x : X) → Contains xs x → p x ≡ true → list_any p xs ≡ true
  any-at [] x h t = absurd (Contains-none x h)
  any-at (y ∷ ys) x h t =
      elim (Contains-cases y ys x h) [
        | inl e ↦ rw (ap p e ∙ t) refl
        | inr k ↦ rw (any-at ys x k t) (or-true (p y))
      ]

  pub any-Contains : (xs : List X) → list_any p xs ≡ true → (x : X) × Contains xs x × (p x ≡ true)
  any-Contains [] h = cc
  any-Contains (y ∷ ys) h =
      elim (cases_Bool (p y)) [
        | inl t ↦ (y, Contains-head y ys, t)
        | inr f ↦ let r = any-Contains ys (rw f at h) in (r.0, Contains-tail y ys r.0 r.1, r.2)
      ]

  pub Contains-filter : (xs : List X) (x : X) → Contains xs x → p x ≡ true → Contains (filter p xs) x
  Contains-filter [] x h t = h
  Contains-filter (y ∷ ys) x h t =
      elim (Contains-cases y ys x h) [
        | inl e ↦ let u : p y ≡ true = ap p e ∙ t in rw u (subst (λ (z : X). Contains (y ∷ filter p ys) z) e (Contains-head y (filter p ys)))
        | inr k ↦ elim (cases_Bool (p y)) [
          | inl u ↦ rw u (Contains-tail y (filter p ys) x (Contains-filter ys x k t))
          | inr f ↦ rw f (Contains-filter ys x k t)
        ]
      ]

  pub filter-Contains : (xs : List X) (x : X) → Contains (filter p xs) x → Contains xs x × (p x ≡ true)
  filter-Contains [] x h = absurd (Contains-none x h)
  filter-Contains (y ∷ ys) x h =
      elim (cases_Bool (p y)) [
        | inl u ↦ elim (Contains-cases y (filter p ys) x (rw u at h)) [
          | inl e ↦ (subst (λ (z : X). Contains (y ∷ ys) z) e (Contains-head y ys), subst (λ (z : X). p z ≡ true) e u)
          | inr k ↦ let r = filter-Contains ys x k in (Contains-tail y ys x r.0, r.1)
        ]
        | inr f ↦ let r = filter-Contains ys x (rw f at h) in (Contains-tail y ys x r.0, r.1)
      ]

  pub count_by-cons : (x : X) (xs : List X) → count_by p (x ∷ xs) ≡ cond (p x) 1 0 + count_by p xs
  count_by-cons x xs = sum_by-cons (λ y. cond (p y) 1 0) x xs

  pub count_by-yes : (x : X) (xs : List X) → p x ≡ true → count_by p (x ∷ xs) ≡ 1 + count_by p xs
  count_by-yes x xs t = count_by-cons x xs ∙ ap (λ b. cond b 1 0 + count_by p xs) t

  pub count_by-no : (x : X) (xs : List X) → p x ≡ false → count_by p (x ∷ xs) ≡ 0 + count_by p xs
  count_by-no x xs f = count_by-cons x xs ∙ ap (λ b. cond b 1 0 + count_by p xs) f

  pub some_counted : (xs : List X) (x : X) → Contains xs x → p x ≡ true → 0 < count_by p xs
  some_counted [] x h t = absurd (Contains-none x h)
  some_counted (y ∷ ys) x h t =
      elim (Contains-cases y ys x h) [
        | inl e ↦ let one = count_by-yes y ys (ap p e ∙ t) in omega (arith, one)
        | inr k ↦ let rest = some_counted ys x k t in let split = count_by-cons y ys in omega (arith, split, rest)
      ]

  pub counted : (xs : List X) → 0 < count_by p xs → (x : X) × Contains xs x × (p x ≡ true)
  counted [] h = absurd (omega arith)
  counted (y ∷ ys) h =
      elim (cases_Bool (p y)) [
        | inl t ↦ (y, Contains-head y ys, t)
        | inr f ↦
            let e = count_by-no y ys f in
            let r = counted ys (omega (arith, e)) in
            (r.0, Contains-tail y ys r.0 r.1, r.2)
      ]

  pub count_by-none : (xs : List X) → ((x : X) → Contains xs x → p x ≡ false) → count_by p xs ≡ 0
  count_by-none [] none = refl
  count_by-none (y ∷ ys) none =
      let f : p y ≡ false = none y (Contains-head y ys) in
      let first = count_by-no y ys f in
      let rest = count_by-none ys (λ x h. none x (Contains-tail y ys x h)) in
      omega (arith, first, rest)

-- how many of the elements that pass p pass q too
pub count_by-filter : {X : Type 0} (p q : X → Bool) (xs : List X) → count_by q (filter p xs) ≡ count_by (λ x. p x && q x) xs
count_by-filter p q [] = refl
count_by-filter p q (x ∷ xs) =
    let r = count_by-filter p q xs in
    let both = count_by (λ y. p y && q y) xs in
    elim (cases_Bool (p x)) [
      | inl t ↦
          let left : count_by q (filter p (x ∷ xs)) ≡ cond (q x) 1 0 + count_by q (filter p xs) = rw t (count_by-cons q x (filter p xs)) in
          let same : (p x && q x) ≡ q x = rw t refl in
          let right : count_by (λ y. p y && q y) (x ∷ xs) ≡ cond (q x) 1 0 + both = count_by-cons (λ y. p y && q y) x xs ∙ ap (λ b. cond b 1 0 + both) same in
          omega (arith, left, r, right)
      | inr f ↦
          let left : count_by q (filter p (x ∷ xs)) ≡ count_by q (filter p xs) = rw f refl in
          let same : (p x && q x) ≡ false = rw f refl in
          let right = count_by-no (λ y. p y && q y) x xs same in
          omega (arith, left, r, right)
    ]
