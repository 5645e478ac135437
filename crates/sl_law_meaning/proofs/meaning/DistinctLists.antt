-- Lists without an element that comes twice: as maps, filters and pieces of others.
use Rattle.std.proofs.Common.{◌≡◌, ℕ, ◌+◌, ◌<◌, Bool, true, false, List, [], ◌∷◌, ◌++◌, map, filter, nat_eq, arith}
use Rattle.std.specs.Prelude.{zip, flat_map}
use Rattle.std.specs.List.{AllByRecursion as Every, IsDistinct, range_with_len, enumerate_from}
use Rattle.std.proofs.lemmas.Bool.{cond_both, ne_eqb}
use Rattle.std.proofs.lemmas.List.Elements.{All-filter, All-from_recursion, filter_passes, recursion_from_All}
use Rattle.std.proofs.lemmas.List.FromFn.{length-range_with_len, get_or-range_with_len}
use Rattle.std.proofs.lemmas.Map.Keys.{IsDistinct-from_apart}

-- ---- what holds of every element

pub every_weaker : {X : Type 0} (P Q : X → Type 0) → ((x : X) → P x → Q x) → (xs : List X) → Every P xs → Every Q xs
every_weaker P Q imp [] all = tt
every_weaker P Q imp (x ∷ xs) all = (imp x all.0, every_weaker P Q imp xs all.1)

pub always : {X : Type 0} (P : X → Type 0) → ((x : X) → P x) → (xs : List X) → Every P xs
always P each [] = tt
always P each (x ∷ xs) = (each x, always P each xs)

pub every_map : {X Y : Type 0} (P : Y → Type 0) (f : X → Y) (xs : List X) → Every (λ x. P (f x)) xs → Every P (map f xs)
every_map P f [] all = tt
every_map P f (x ∷ xs) all = (all.0, every_map P f xs all.1)

pub every_filter : {X : Type 0} (P : X → Type 0) (p : X → Bool) (xs : List X) → Every P xs → Every P (filter p xs)
every_filter P p xs all = recursion_from_All P (filter p xs) (All-filter p P xs (All-from_recursion P xs all))

pub every_passes : {X : Type 0} (P : X → Type 0) (p : X → Bool) (xs : List X) → Every P xs → Every (λ x. P x × (p x ≡ true)) (filter p xs)
every_passes P p xs all =
    recursion_from_All (λ x. P x × (p x ≡ true)) (filter p xs) (λ k d less. (All-filter p P xs (All-from_recursion P xs all) k d less, filter_passes p xs k d less))

pub every_append : {X : Type 0} (P : X → Type 0) (xs ys : List X) → Every P xs → Every P ys → Every P (xs ++ ys)
every_append P [] ys all more = more
every_append P (x ∷ xs) ys all more = (all.0, every_append P xs ys all.1 more)

pub every_pieces : {X Y : Type 0} (P : Y → Type 0) (f : X → List Y) (xs : List X) → Every (λ x. Every P (f x)) xs → Every P (flat_map f xs)
every_pieces P f [] all = tt
every_pieces P f (x ∷ xs) all = every_append P (f x) (flat_map f xs) all.0 (every_pieces P f xs all.1)

pub every_both : {X : Type 0} (P Q R : X → Type 0) → ((x : X) → P x → Q x → R x) → (xs : List X) → Every P xs → Every Q xs → Every R xs
every_both P Q R imp [] all more = tt
every_both P Q R imp (x ∷ xs) all more = (imp x all.0 more.0, every_both P Q R imp xs all.1 more.1)

pub every_second : {X Y : Type 0} (P : Y → Type 0) (xs : List X) (ys : List Y) → Every P ys → Every (λ z. P z.1) (zip xs ys)
every_second P [] ys all = tt
every_second P (x ∷ xs) [] all = tt
every_second P (x ∷ xs) (y ∷ ys) all = (all.0, every_second P xs ys all.1)

-- ---- no element twice

-- each of these differs from each of those
abbrev pub Apart : {X : Type 0} → (X → X → Bool) → List X → List X → Type 0
Apart same xs ys = Every (λ x. Every (λ y. same x y ≡ false) ys) xs

pub maps_apart : {X Y Z : Type 0} (same : Z → Z → Bool) (f : X → Z) (g : Y → Z) → ((x : X) (y : Y) → same (f x) (g y) ≡ false) → (xs : List X) (ys : List Y) → Apart same (map f xs) (map g ys)
maps_apart same f g differ xs ys =
    every_map (λ u. Every (λ v. same u v ≡ false) (map g ys)) f xs
    (always (λ x. Every (λ v. same (f x) v ≡ false) (map g ys)) (λ x. every_map (λ v. same (f x) v ≡ false) g ys (always (λ y. same (f x) (g y) ≡ false) (differ x) ys)) xs)

module _ {X : Type 0} (same : X → X → Bool) where
  pub distinct_nil : IsDistinct same []
  unfolding IsDistinct
  distinct_nil = tt

  pub distinct_one : (x : X) → IsDistinct same (x ∷ [])
  unfolding IsDistinct
  distinct_one x = (tt, tt)

  pub distinct_append : (xs ys : List X) → IsDistinct same xs → IsDistinct same ys → Apart same xs ys → IsDistinct same (xs ++ ys)
  unfolding IsDistinct
  distinct_append [] ys d e apart = e
  distinct_append (x ∷ xs) ys d e apart = (every_append (λ y. same x y ≡ false) xs ys d.0 apart.0, distinct_append xs ys d.1 e apart.1)

  pub distinct_filter : (p : X → Bool) (xs : List X) → IsDistinct same xs → IsDistinct same (filter p xs)
  unfolding IsDistinct
  distinct_filter p [] d = tt
  distinct_filter p (x ∷ xs) d =
      cond_both (p x) (x ∷ filter p xs) (filter p xs) (IsDistinct same)
      (λ passes. (every_filter (λ y. same x y ≡ false) p xs d.0, distinct_filter p xs d.1)) (λ fails. distinct_filter p xs d.1)

  -- a list from pieces, of which those of different elements are apart
  module _ {Y : Type 0} (differ : Y → Y → Bool) (f : Y → List X) (apart : (x y : Y) → differ x y ≡ false → Apart same (f x) (f y)) where
    from_all : (x : Y) (ys : List Y) → Every (λ y. differ x y ≡ false) ys → Apart same (f x) (flat_map f ys)
    from_all x [] all = always (λ s. Every (λ t. same s t ≡ false) []) (λ s. tt) (f x)
    from_all x (y ∷ ys) all =
        every_both (λ s. Every (λ t. same s t ≡ false) (f y)) (λ s. Every (λ t. same s t ≡ false) (flat_map f ys)) (λ s. Every (λ t. same s t ≡ false) (f y ++ flat_map f ys))
        (λ s first rest. every_append (λ t. same s t ≡ false) (f y) (flat_map f ys) first rest) (f x) (apart x y all.0) (from_all x ys all.1)

    pub distinct_pieces : (ys : List Y) → Every (λ y. IsDistinct same (f y)) ys → IsDistinct differ ys → IsDistinct same (flat_map f ys)
    unfolding IsDistinct
    distinct_pieces [] each d = tt
    distinct_pieces (y ∷ ys) each d = distinct_append (f y) (flat_map f ys) each.0 (distinct_pieces ys each.1 d.1) (from_all y ys d.0)

pub distinct_map : {X Y : Type 0} (same : X → X → Bool) (differ : Y → Y → Bool) (f : X → Y) → ((x y : X) → same x y ≡ false → differ (f x) (f y) ≡ false) → (xs : List X) →
    IsDistinct same xs → IsDistinct differ (map f xs)
unfolding IsDistinct
distinct_map same differ f keeps [] d = tt
distinct_map same differ f keeps (x ∷ xs) d =
    (every_map (λ y. differ (f x) y ≡ false) f xs (every_weaker (λ y. same x y ≡ false) (λ y. differ (f x) (f y) ≡ false) (keeps x) xs d.0), distinct_map same differ f keeps xs d.1)

-- ---- numbered, zipped and counted lists

pub distinct_range : (a n : ℕ) → IsDistinct nat_eq (range_with_len a n)
distinct_range a n =
    IsDistinct-from_apart nat_eq (range_with_len a n) (λ i j d less within.
    let inside : j < n = omega (arith, length-range_with_len a n) in
    ne_eqb _ _ (λ same. omega (arith, same, get_or-range_with_len a n i d (omega arith), get_or-range_with_len a n j d inside)))

module _ {X : Type 0} where
  every_numbered : (P : X → Type 0) (n : ℕ) (xs : List X) → Every P xs → Every (λ x. P x.1) (enumerate_from n xs)
  every_numbered P n [] all = tt
  every_numbered P n (x ∷ xs) all = (all.0, every_numbered P (n + 1) xs all.1)

  pub distinct_numbered : (same : X → X → Bool) (n : ℕ) (xs : List X) → IsDistinct same xs → IsDistinct (λ x y. same x.1 y.1) (enumerate_from n xs)
  unfolding IsDistinct
  distinct_numbered same n [] d = tt
  distinct_numbered same n (x ∷ xs) d = (every_numbered (λ y. same x y ≡ false) (n + 1) xs d.0, distinct_numbered same (n + 1) xs d.1)

  pub every_zipped : {Y : Type 0} (P : X → Type 0) (xs : List X) (ys : List Y) → Every P xs → Every (λ x. P x.0) (zip xs ys)
  every_zipped P [] ys all = tt
  every_zipped P (x ∷ xs) [] all = tt
  every_zipped P (x ∷ xs) (y ∷ ys) all = (all.0, every_zipped P xs ys all.1)

  pub distinct_zipped : {Y : Type 0} (same : X → X → Bool) (xs : List X) (ys : List Y) → IsDistinct same xs → IsDistinct (λ x y. same x.0 y.0) (zip xs ys)
  unfolding IsDistinct
  distinct_zipped same [] ys d = tt
  distinct_zipped same (x ∷ xs) [] d = tt
  distinct_zipped same (x ∷ xs) (y ∷ ys) d = (every_zipped (λ z. same x z ≡ false) xs ys d.0, distinct_zipped same xs ys d.1)
