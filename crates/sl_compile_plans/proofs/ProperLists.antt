-- What holds of each element of a list, by recursion: of lists in a row, and of numbers below 2^64.
use Rattle.std.proofs.Common.{◌≡◌, ℕ, ◌<◌, ◌^◌, true, List, [], ◌∷◌, ◌++◌, arith}
use Rattle.std.specs.Prelude.{nat_lt}
use Rattle.std.specs.List.{AllByRecursion, list_all}
use Rattle.std.proofs.lemmas.Bool.{and_parts, ltb-true}

module _ {X : Type 0} (P : X → Type 0) where
  pub all_append : (xs ys : List X) → AllByRecursion P xs → AllByRecursion P ys → AllByRecursion P (xs ++ ys)
  all_append [] ys hx hy = hy
  all_append (x ∷ xs) ys hx hy = (hx.0, all_append xs ys hx.1 hy)

  pub all_parts : (xs ys : List X) → AllByRecursion P (xs ++ ys) → AllByRecursion P xs × AllByRecursion P ys
  all_parts [] ys h = (tt, h)
  all_parts (x ∷ xs) ys h = let rest = all_parts xs ys h.1 in ((h.0, rest.0), rest.1)

-- ---- numbers

-- a register can be set to it
abbrev pub Fits : ℕ → Type 0
Fits n = n < 2 ^ 64

abbrev pub AllFit : List ℕ → Type 0
AllFit = AllByRecursion Fits

pub small_fit : (xs : List ℕ) → list_all (λ n. nat_lt n 5000) xs ≡ true → AllFit xs
small_fit [] h = tt
small_fit (x ∷ xs) h =
    let parts = and_parts (nat_lt x 5000) (list_all (λ n. nat_lt n 5000) xs) h in
    let below : x < 5000 = ltb-true x 5000 parts.0 in
    (omega (arith, below), small_fit xs parts.1)
