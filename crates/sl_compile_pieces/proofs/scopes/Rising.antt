-- Lists along which a number of each element rises.
use Rattle.std.proofs.Common.{ℕ, zero, suc, ◌+◌, ◌<◌, ◌≤◌, Bool, List, [], ◌∷◌, ◌++◌, length, map, filter, inl, inr, arith}
use Rattle.std.specs.Prelude.{slice_index}
use Rattle.std.specs.List.{AllByRecursion as Every, range_with_len}
use Rattle.std.specs.List.Sorted.{IsStrictlyIncreasing}
use Rattle.std.proofs.lemmas.Bool.{cases_Bool}
use Rattle.sl_law_meaning.proofs.meaning.DistinctLists.{every_map, every_filter, every_append, every_weaker}

-- it is less than that of each later element
abbrev pub Rises : {X : Type 0} → (X → ℕ) → List X → Type 0
Rises f [] = Unit {0}
Rises f (x ∷ xs) = Every (λ y. f x < f y) xs × Rises f xs

pub between : (a n low high : ℕ) → low ≤ a → a + n ≤ high → Every (λ k. (low ≤ k) × (k < high)) (range_with_len a n)
between a zero low high least most = tt
between a (suc n) low high least most = ((least, omega arith), between (a + 1) n low high (omega arith) (omega arith))

pub rises_range : (a n : ℕ) → Rises (λ (k : ℕ). k) (range_with_len a n)
rises_range a zero = tt
rises_range a (suc n) = (
  every_weaker (λ k. (a + 1 ≤ k) × (k < a + 1 + n)) (λ k. a < k) (λ k h. let least : a + 1 ≤ k = h.0 in omega (arith, least)) (range_with_len (a + 1) n) (between (a + 1) n (a + 1) (a + 1 + n) (omega arith) (omega arith)),
  rises_range (a + 1) n,
)

module _ {X : Type 0} (f : X → ℕ) where
  pub rises_filter : (p : X → Bool) (xs : List X) → Rises f xs → Rises f (filter p xs)
  rises_filter p [] h = tt
  rises_filter p (x ∷ xs) h =
      elim (cases_Bool (p x)) [ inl is ↦ rw is (every_filter (λ y. f x < f y) p xs h.0, rises_filter p xs h.1) | inr is ↦ rw is (rises_filter p xs h.1) ]

  pub rises_map : {Y : Type 0} (g : Y → ℕ) (make : X → Y) → ((x y : X) → f x < f y → g (make x) < g (make y)) → (xs : List X) → Rises f xs → Rises g (map make xs)
  rises_map g make keeps [] h = tt
  rises_map g make keeps (x ∷ xs) h =
      (every_map (λ y. g (make x) < g y) make xs (every_weaker (λ y. f x < f y) (λ y. g (make x) < g (make y)) (keeps x) xs h.0), rises_map g make keeps xs h.1)

  -- with a number between the two lists
  pub rises_append : (n : ℕ) (xs ys : List X) → Every (λ x. f x < n) xs → Every (λ y. n ≤ f y) ys → Rises f xs → Rises f ys → Rises f (xs ++ ys)
  rises_append n [] ys below above h k = k
  rises_append n (x ∷ xs) ys below above h k = (
    every_append (λ y. f x < f y) xs ys h.0 (every_weaker (λ y. n ≤ f y) (λ y. f x < f y) (λ y at. let first : f x < n = below.0 in omega (arith, first, at)) ys above),
    rises_append n xs ys below.1 above h.1 k,
  )

  later : (n : ℕ) (xs : List X) (k : ℕ) → Every (λ y. n < f y) xs → k < length (map f xs) → n < slice_index (map f xs) k
  later n [] k all less = absurd (omega (arith, less))
  later n (x ∷ xs) zero all less = all.0
  later n (x ∷ xs) (suc k) all less = later n xs k all.1 (omega (arith, less))

  rising : (xs : List X) (j k : ℕ) → Rises f xs → j < k → k < length (map f xs) → slice_index (map f xs) j < slice_index (map f xs) k
  rising [] j k h less within = absurd (omega (arith, within))
  rising (x ∷ xs) j zero h less within = absurd (omega (arith, less))
  rising (x ∷ xs) zero (suc k) h less within = later (f x) xs k h.0 (omega (arith, within))
  rising (x ∷ xs) (suc j) (suc k) h less within = rising xs j k h.1 (omega (arith, less)) (omega (arith, within))

  pub increasing : (xs : List X) → Rises f xs → IsStrictlyIncreasing (map f xs)
  increasing xs h k within = rising xs k (k + 1) h (omega arith) within
