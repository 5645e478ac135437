-- A search for the value of a number among some values.
use Rattle.std.proofs.Common.{◌≡◌, ℕ, Bool, true, false, cond, List, [], ◌∷◌, Option, Some, nat_eq, find, MatchOption, refl}
use Rattle.std.specs.Prelude.{◌||◌}
use Rattle.std.proofs.lemmas.Bool.{eqb-true}
use Rattle.sl_code.specs.Operands.{is_number}

module _ {A : Type 0} (number : A → ℕ) (n : ℕ) where
  -- the value of that number, or none where there is none
  abbrev pub IsFound : List A → Option A → Type 0
  IsFound xs found = MatchOption found (is_number number xs n ≡ false) (λ x. number x ≡ n)

  first_or_later : (x : A) (xs : List A) (b : Bool) → nat_eq (number x) n ≡ b → IsFound xs (find (λ y. nat_eq (number y) n) xs)
      → MatchOption (cond b (Some x) (find (λ y. nat_eq (number y) n) xs)) ((b || is_number number xs n) ≡ false) (λ y. number y ≡ n)
  first_or_later x xs true same later = eqb-true (number x) n same
  first_or_later x xs false other later = later

  pub found_in : (xs : List A) → IsFound xs (find (λ x. nat_eq (number x) n) xs)
  found_in [] = refl
  found_in (x ∷ xs) = first_or_later x xs (nat_eq (number x) n) refl (found_in xs)
