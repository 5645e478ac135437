-- What is in a list: as maps, filters, pieces and pairs of others; and numbers that are among others.
use Rattle.std.proofs.Common.{◌≡◌, ℕ, zero, suc, ◌+◌, ◌<◌, ◌⊎◌, Bool, true, false, List, [], ◌∷◌, ◌++◌, Option, Some, None, map, filter, nat_eq, arith, refl, sym, ap, subst, ◌∙◌, inl, inr}
use Rattle.std.specs.Prelude.{zip, flat_map, filter_map}
use Rattle.std.specs.List.{AllByRecursion as Every, AllZip, cons_option, list_any, range_with_len}
use Rattle.std.proofs.lemmas.Bool.{cond-true, cond_both, or_cases, or_left, or_right, eqb-true, false≢true}
use Rattle.std.proofs.lemmas.List.Folds.{list_any-append, list_any_none}
use Rattle.std.proofs.lemmas.List.Elements.{All-from_recursion}

abbrev pub In : {X : Type 0} → X → List X → Type 0
In x [] = ⊥
In x (y ∷ ys) = (y ≡ x) ⊎ In x ys

pub in_left : {X : Type 0} (x : X) (xs ys : List X) → In x xs → In x (xs ++ ys)
in_left x [] ys h = absurd h
in_left x (z ∷ xs) ys (inl e) = inl e
in_left x (z ∷ xs) ys (inr h) = inr (in_left x xs ys h)

pub in_right : {X : Type 0} (x : X) (xs ys : List X) → In x ys → In x (xs ++ ys)
in_right x [] ys h = h
in_right x (z ∷ xs) ys h = inr (in_right x xs ys h)

pub in_map : {X Y : Type 0} (f : X → Y) (x : X) (xs : List X) → In x xs → In (f x) (map f xs)
in_map f x [] h = absurd h
in_map f x (z ∷ xs) (inl e) = inl (ap f e)
in_map f x (z ∷ xs) (inr h) = inr (in_map f x xs h)

pub in_filter : {X : Type 0} (p : X → Bool) (x : X) (xs : List X) → p x ≡ true → In x xs → In x (filter p xs)
in_filter p x [] pass h = absurd h
in_filter p x (z ∷ xs) pass (inl e) = subst (In x) (sym (cond-true (p z) (z ∷ filter p xs) (filter p xs) (ap p e ∙ pass))) (inl e)
in_filter p x (z ∷ xs) pass (inr h) =
    cond_both (p z) (z ∷ filter p xs) (filter p xs) (In x) (λ passes. inr (in_filter p x xs pass h)) (λ fails. in_filter p x xs pass h)

pub in_pieces : {X Y : Type 0} (f : X → List Y) (y : Y) (x : X) (xs : List X) → In x xs → In y (f x) → In y (flat_map f xs)
in_pieces f y x [] h k = absurd h
in_pieces f y x (z ∷ xs) (inl e) k = in_left y (f z) (flat_map f xs) (subst (λ w. In y (f w)) (sym e) k)
in_pieces f y x (z ∷ xs) (inr h) k = in_right y (f z) (flat_map f xs) (in_pieces f y x xs h k)

in_range_from : (a n i : ℕ) → i < n → In (a + i) (range_with_len a n)
in_range_from a zero i less = absurd (omega arith)
in_range_from a (suc n) zero less = inl (omega arith)
in_range_from a (suc n) (suc i) less = let same : a + 1 + i ≡ a + suc i = omega arith in inr (subst (λ k. In k (range_with_len (a + 1) n)) same (in_range_from (a + 1) n i (omega arith)))

pub in_range : (n i : ℕ) → i < n → In i (range_with_len 0 n)
in_range n i less = let same : 0 + i ≡ i = omega arith in subst (λ k. In k (range_with_len 0 n)) same (in_range_from 0 n i less)

-- what stands beside an element, in a list of pairs of which R holds
pub in_zip : {X Y : Type 0} (R : X → Y → Type 0) (x : X) (xs : List X) (ys : List Y) → AllZip R xs ys → In x xs → (y : Y) × In (x, y) (zip xs ys) × R x y
in_zip R x [] ys all h = absurd h
in_zip R x (z ∷ xs) [] all h = absurd all
in_zip R x (z ∷ xs) (y ∷ ys) all (inl e) = (y, inl (ap (λ w. (w, y)) e), subst (λ w. R w y) e all.0)
in_zip R x (z ∷ xs) (y ∷ ys) all (inr h) = let rest = in_zip R x xs ys all.1 h in (rest.0, inr rest.1, rest.2)

pub zip_each : {X Y : Type 0} (R : X → Y → Type 0) (xs : List X) (ys : List Y) → AllZip R xs ys → Every (λ z. R z.0 z.1) (zip xs ys)
zip_each R [] ys all = tt
zip_each R (x ∷ xs) [] all = tt
zip_each R (x ∷ xs) (y ∷ ys) all = (all.0, zip_each R xs ys all.1)

-- one pair more
pub all_and_one : {X Y : Type 0} (R : X → Y → Type 0) (xs : List X) (ys : List Y) (x : X) (y : Y) → R x y → AllZip R xs ys → AllZip R (xs ++ x ∷ []) (ys ++ y ∷ [])
all_and_one R [] [] x y this all = (this, tt)
all_and_one R [] (d ∷ ys) x y this all = absurd all
all_and_one R (c ∷ xs) [] x y this all = absurd all
all_and_one R (c ∷ xs) (d ∷ ys) x y this all = (all.0, all_and_one R xs ys x y this all.1)

kept_none : {Y : Type 0} (o : Option Y) (ys : List Y) → cons_option o ys ≡ [] → (o ≡ None) × (ys ≡ [])
kept_none None ys h = (refl, h)
kept_none (Some y) ys h = cc

pub none_mapped : {X Y : Type 0} (h : X → Option Y) (x : X) (xs : List X) → filter_map h xs ≡ [] → In x xs → h x ≡ None
none_mapped h x [] none there = absurd there
none_mapped h x (z ∷ xs) none (inl e) = sym (ap h e) ∙ (kept_none (h z) (filter_map h xs) none).0
none_mapped h x (z ∷ xs) none (inr there) = none_mapped h x xs (kept_none (h z) (filter_map h xs) none).1 there

-- ---- numbers among others

-- the number is one of these
abbrev pub among : List ℕ → ℕ → Bool
among ks k = list_any (nat_eq k) ks

pub not_among : (ks : List ℕ) (k : ℕ) → Every (λ m. nat_eq k m ≡ false) ks → among ks k ≡ false
not_among ks k all = list_any_none (nat_eq k) ks (All-from_recursion (λ m. nat_eq k m ≡ false) ks all)

pub among_piece : {X : Type 0} (f : X → List ℕ) (k : ℕ) (x : X) (xs : List X) → In x xs → among (f x) k ≡ true → among (flat_map f xs) k ≡ true
among_piece f k x [] h is = absurd h
among_piece f k x (z ∷ xs) (inl e) is = list_any-append (nat_eq k) (f z) (flat_map f xs) ∙ or_left (among (f z) k) (among (flat_map f xs) k) (ap (λ w. among (f w) k) e ∙ is)
among_piece f k x (z ∷ xs) (inr h) is = list_any-append (nat_eq k) (f z) (flat_map f xs) ∙ or_right (among (f z) k) (among (flat_map f xs) k) (among_piece f k x xs h is)

pub some_piece : {X : Type 0} (P : X → Type 0) (f : X → List ℕ) (k : ℕ) (xs : List X) → Every P xs → among (flat_map f xs) k ≡ true → (x : X) × P x × (among (f x) k ≡ true)
some_piece P f k [] all is = absurd (false≢true is)
some_piece P f k (z ∷ xs) all is =
    elim (or_cases (among (f z) k) (among (flat_map f xs) k) (sym (list_any-append (nat_eq k) (f z) (flat_map f xs)) ∙ is)) [
      | inl this ↦ (z, all.0, this)
      | inr other ↦ some_piece P f k xs all.1 other
    ]

-- a number that is among those of some elements is the number of one
pub among_numbers : {X : Type 0} (P : X → Type 0) (number : X → ℕ) (k : ℕ) (xs : List X) → Every P xs → among (map number xs) k ≡ true → (x : X) × P x × (number x ≡ k)
among_numbers P number k [] all is = absurd (false≢true is)
among_numbers P number k (z ∷ xs) all is =
    elim (or_cases (nat_eq k (number z)) (among (map number xs) k) is) [
      | inl this ↦ (z, all.0, sym (eqb-true k (number z) this))
      | inr other ↦ among_numbers P number k xs all.1 other
    ]
