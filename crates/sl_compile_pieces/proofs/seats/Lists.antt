-- The elements of lists that are made of others, lists in pieces, one for each of their first elements, sums of first numbers, and numbers that stand apart.
use Rattle.std.proofs.Common.{◌≡◌, ℕ, zero, suc, ◌+◌, ◌<◌, ◌≤◌, List, [], ◌∷◌, ◌++◌, length, map, take, slice_get, Some, option_map, sum, All, refl, sym, ap, ap₂, append_assoc, ◌∙◌, inl, inr, arith}
use Rattle.std.specs.Prelude.{flat_map, slice_index}
use Rattle.std.specs.List.{range_with_len, enumerate_from}
use Rattle.std.specs.List.Sorted.{IsStrictlyIncreasing}
use Rattle.std.proofs.lemmas.Option.{slice_get_within, slice_get-get_or, get_or_from_slice_get, slice_get-map}
use Rattle.std.proofs.lemmas.List.{take_more, flat_map_more, take_all, length-map, get_or_past}
use Rattle.std.proofs.lemmas.Bool.{cases_lt}
use Rattle.std.proofs.lemmas.List.Elements.{All-get_or}
use Rattle.std.proofs.lemmas.List.FromFn.{length-range_with_len, get_or-range_with_len, length-enumerate_from, get_or-enumerate_from}
use Rattle.std.proofs.lemmas.List.Kept.{AllPairs-from_increasing}
use Rattle.std.proofs.lemmas.List.Sums.{sum_by_more, sum_by-take-le}

-- ---- elements

pub number_at : (n j : ℕ) → j < n → slice_get (range_with_len 0 n) j ≡ Some j
number_at n j less =
    let same : 0 + j ≡ j = omega arith in
    slice_get-get_or (range_with_len 0 n) j 0 (omega (arith, length-range_with_len 0 n, less)) ∙ ap Some (get_or-range_with_len 0 n j 0 less ∙ same)

pub numbered_at : {X : Type 0} (xs : List X) (j : ℕ) (x : X) → slice_get xs j ≡ Some x → slice_get (enumerate_from 0 xs) j ≡ Some (j, x)
numbered_at xs j x at =
    let within : j < length xs = slice_get_within xs j x at in
    let same : 0 + j ≡ j = omega arith in
    slice_get-get_or (enumerate_from 0 xs) j (j, x) (omega (arith, length-enumerate_from 0 xs, within))
    ∙ ap Some (get_or-enumerate_from 0 xs j (j, x) within ∙ ap₂ (λ n y. (n, y)) same (get_or_from_slice_get xs j x x at))

pub number_there : {X : Type 0} (xs : List X) (j : ℕ) (y : ℕ × X) → slice_get (enumerate_from 0 xs) j ≡ Some y → y.0 ≡ j
number_there xs j y at =
    let within : j < length xs = omega (arith, slice_get_within (enumerate_from 0 xs) j y at, length-enumerate_from 0 xs) in
    let same : 0 + j ≡ j = omega arith in
    ap (λ p. p.0) (sym (get_or_from_slice_get (enumerate_from 0 xs) j y y at) ∙ get_or-enumerate_from 0 xs j y within) ∙ same

pub mapped_at : {X : Type 0} (f : X → ℕ) (xs : List X) (j : ℕ) (x : X) → slice_get xs j ≡ Some x → slice_index (map f xs) j ≡ f x
mapped_at f xs j x at = get_or_from_slice_get (map f xs) j (f x) 0 (slice_get-map f xs j ∙ ap (option_map f) at)

-- no number of the list is over the limit, nor is what it reads past its end
pub number_within : (limit : ℕ) (values : List ℕ) (j : ℕ) → All (λ n. n ≤ limit) values → slice_index values j ≤ limit
number_within limit values j all =
    elim (cases_lt j (length values)) [
      | inl less ↦ All-get_or (λ n. n ≤ limit) values j 0 less all
      | inr past ↦ let none : slice_index values j ≡ 0 = get_or_past values j 0 past in omega (arith, none)
    ]

-- ---- pieces

module _ {X Y : Type 0} (f : X → List Y) where
  -- one piece more
  pub pieces_more : (xs : List X) (j : ℕ) (x : X) → slice_get xs j ≡ Some x → flat_map f (take (j + 1) xs) ≡ flat_map f (take j xs) ++ f x
  pieces_more xs j x at =
      let one : take (j + 1) xs ≡ take j xs ++ x ∷ [] = take_more xs j x (slice_get_within xs j x at) ∙ ap (λ y. take j xs ++ y ∷ []) (get_or_from_slice_get xs j x x at) in
      ap (flat_map f) one ∙ sym (flat_map_more f [] (take j xs) x)

  -- the pieces of all
  pub pieces_all : (xs : List X) (n : ℕ) → length xs ≡ n → flat_map f (take n xs) ≡ flat_map f xs
  pieces_all xs n long = ap (flat_map f) (take_all n xs (omega (arith, long)))

  pub pieces_alike : (g : X → List Y) → ((x : X) → f x ≡ g x) → (xs : List X) → flat_map f xs ≡ flat_map g xs
  pieces_alike g same [] = refl
  pieces_alike g same (x ∷ xs) = ap₂ (λ a b. a ++ b) (same x) (pieces_alike g same xs)

-- what is made of the numbers from a on, by functions that are the same there
pub made_alike : {X : Type 0} (f g : ℕ → X) (a n : ℕ) → ((k : ℕ) → k < a + n → f k ≡ g k) → map f (range_with_len a n) ≡ map g (range_with_len a n)
made_alike f g a zero same = refl
made_alike f g a (suc n) same = ap₂ (λ x xs. x ∷ xs) (same a (omega arith)) (made_alike f g (a + 1) n (λ k less. same k (omega (arith, less))))

-- a list after a front, with more of it
pub row_more : {X : Type 0} (front xs ys more now : List X) → now ≡ front ++ xs → ys ≡ xs ++ more → now ++ more ≡ front ++ ys
row_more front xs ys more now so_far next = ap (λ zs. zs ++ more) so_far ∙ append_assoc front xs more ∙ ap (λ zs. front ++ zs) (sym next)

-- ---- sums

-- the first numbers, where the first are all
pub sum_of_all : (b : List ℕ) (n : ℕ) → length b ≡ n → sum (take n b) ≡ sum b
sum_of_all b n long = ap sum (take_all n b (omega (arith, long)))

-- the first numbers with the next one sum to no more than all
pub sum_so_far : (b : List ℕ) (j : ℕ) → j < length b → (sum (take (j + 1) b) ≡ sum (take j b) + slice_index b j) × (sum (take (j + 1) b) ≤ sum b)
sum_so_far b j less = (sum_by_more (λ n. n) b j 0 less, sum_by-take-le (λ n. n) b (j + 1))

-- ---- numbers that stand apart

module _ {X : Type 0} (f : X → ℕ) (xs : List X) (rises : IsStrictlyIncreasing (map f xs)) where
  pub rises_far : (j k : ℕ) (x y : X) → slice_get xs j ≡ Some x → slice_get xs k ≡ Some y → j < k → f x < f y
  rises_far j k x y at there less =
      let within : k < length (map f xs) = omega (arith, slice_get_within xs k y there, length-map xs f) in
      omega (arith, AllPairs-from_increasing (map f xs) rises j k 0 less within, mapped_at f xs j x at, mapped_at f xs k y there)
