-- The place of the first item that passes a test, as `position` gives it.
use Rattle.std.proofs.Common.{◌≡◌, ◌∙◌, ◌⊎◌, ◌<◌, ◌≤◌, Bool, List, None, Option, Some, ap, arith, cond, inl, inr, length, unwrap_or, ℕ}
use Rattle.std.specs.List.{position, position_or_len}
use Rattle.std.proofs.lemmas.Bool.{cases_lt, le-ltb, lt-ltb}
use Rattle.std.proofs.lemmas.List.Sums.{prefix_len-le-length}
use Rattle.std.specs.Prelude.{not}

pub placed : {X : Type 0} (p : X → Bool) (xs : List X) → unwrap_or (position p xs) (length xs) ≡ position_or_len p xs
placed p xs = go (cases_lt (position_or_len p xs) (length xs))
  where
    chosen : Bool → ℕ
    chosen b = unwrap_or (cond {A = Option ℕ} b (Some (position_or_len p xs)) None) (length xs)

    go : (position_or_len p xs < length xs) ⊎ (length xs ≤ position_or_len p xs) → unwrap_or (position p xs) (length xs) ≡ position_or_len p xs
    go (inl below) = ap chosen (lt-ltb (position_or_len p xs) (length xs) below)
    go (inr past) = ap chosen (le-ltb (position_or_len p xs) (length xs) past) ∙ omega (arith, past, prefix_len-le-length (λ x. not (p x)) xs)
