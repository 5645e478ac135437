-- Lists of what is made for some of the numbers below a bound, those numbers, and a list of one.
use Rattle.std.proofs.Common.{◌≡◌, ℕ, ◌+◌, ◌<◌, ◌&&◌, Bool, true, List, [], ◌∷◌, map, Some, slice_get, Contains, refl, sym, ap, subst, ◌∙◌, inl, inr, arith}
use Rattle.std.specs.Prelude.{flat_map, if◌then◌else◌}
use Rattle.std.specs.List.{filter, range_with_len}
use Rattle.std.specs.List.Sorted.{IsStrictlyIncreasing}
use Rattle.std.proofs.lemmas.Bool.{cases_Bool}
use Rattle.std.proofs.lemmas.Option.{slice_get_within, get_or_from_slice_get}
use Rattle.std.proofs.lemmas.List.FromFn.{length-range_with_len, get_or-range_with_len}
use Rattle.sl_base_rankings.proofs.Finding.{Contains-none, Contains-cases, Contains-head, Contains-tail}

module _ {X : Type 0} (has : ℕ → Bool) (made : ℕ → X) where
  abbrev pub piece : ℕ → List X
  piece i = if has i then made i ∷ [] else []

  pub filtered : (p : X → Bool) (is : List ℕ) → filter p (flat_map piece is) ≡ map made (filter (λ i. has i && p (made i)) is)
  filtered p [] = refl
  filtered p (i ∷ is) =
      elim (cases_Bool (has i)) [
        | inl t ↦ elim (cases_Bool (p (made i))) [
          | inl u ↦ rw (t, u) (ap (λ ys. made i ∷ ys) (filtered p is))
          | inr f ↦ rw (t, f) (filtered p is)
        ]
        | inr f ↦ rw f (filtered p is)
      ]

  pub piece_there : (is : List ℕ) (i : ℕ) → Contains is i → has i ≡ true → Contains (flat_map piece is) (made i)
  piece_there [] i c t = absurd (Contains-none i c)
  piece_there (j ∷ is) i c t =
      elim (Contains-cases j is i c) [
        | inl e ↦
            let u : has j ≡ true = ap has e ∙ t in
            rw u (subst (λ n. Contains (made j ∷ flat_map piece is) (made n)) e (Contains-head (made j) (flat_map piece is)))
        | inr later ↦
            let rest = piece_there is i later t in
            elim (cases_Bool (has j)) [
              | inl u ↦ rw u (Contains-tail (made j) (flat_map piece is) (made i) rest)
              | inr f ↦ rw f rest
            ]
      ]

  pub piece_of : (is : List ℕ) (x : X) → Contains (flat_map piece is) x → (i : ℕ) × Contains is i × (has i ≡ true) × (x ≡ made i)
  piece_of [] x c = absurd (Contains-none x c)
  piece_of (j ∷ is) x c =
      elim (cases_Bool (has j)) [
        | inl u ↦ elim (Contains-cases (made j) (flat_map piece is) x (rw u at c)) [
          | inl e ↦ (j, Contains-head j is, u, sym e)
          | inr later ↦ let rest = piece_of is x later in (rest.0, Contains-tail j is rest.0 rest.1, rest.2, rest.3)
        ]
        | inr f ↦ let rest = piece_of is x (rw f at c) in (rest.0, Contains-tail j is rest.0 rest.1, rest.2, rest.3)
      ]

-- ---- the numbers below a bound

pub below_there : (n i : ℕ) → i < n → Contains (range_with_len 0 n) i
below_there n i l = (i, (let long = length-range_with_len 0 n in omega (arith, long)), (let at = get_or-range_with_len 0 n i i l in omega (arith, at)))

pub range_increasing : (n : ℕ) → IsStrictlyIncreasing (range_with_len 0 n)
range_increasing n k l =
    let long = length-range_with_len 0 n in
    omega (arith, get_or-range_with_len 0 n k 0 (omega (arith, long)), get_or-range_with_len 0 n (k + 1) 0 (omega (arith, long)))

-- a number of the first ones stands at its own place
pub number_is : (n j y : ℕ) → slice_get (range_with_len 0 n) j ≡ Some y → (y ≡ j) × (j < n)
number_is n j y at =
    let within : j < n = omega (arith, slice_get_within (range_with_len 0 n) j y at, length-range_with_len 0 n) in
    (omega (arith, get_or_from_slice_get (range_with_len 0 n) j y y at, get_or-range_with_len 0 n j y within), within)

-- a list of one has no other number
pub only_it : (i j : ℕ) → Contains (i ∷ []) j → i ≡ j
only_it i j c = elim (Contains-cases i [] j c) [ inl same ↦ same | inr none ↦ absurd (Contains-none j none) ]

pub not_it : (i j : ℕ) → ¬ (j ≡ i) → ¬ Contains (i ∷ []) j
not_it i j other c = other (sym (only_it i j c))
