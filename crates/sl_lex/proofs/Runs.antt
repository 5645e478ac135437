-- The longest run of bytes that pass a test, at the front of a list.
use Rattle.std.proofs.Common.{◌≡◌, ℕ, suc, ◌+◌, ◌≤◌, Bool, true, false, cond, List, [], ◌∷◌, ◌++◌, length, take, refl, arith}
use Rattle.std.specs.Bool.{Decides}
use Rattle.std.specs.List.{AllByRecursion, prefix_len}
use Rattle.std.proofs.lemmas.Bool.{false_from_ne_true}

module _ (p : ℕ → Bool) (P : ℕ → Type 0) (decides : (b : ℕ) → Decides (p b) (P b)) where
  one_more : (x : ℕ) (xs : List ℕ) → AllByRecursion P (take (prefix_len p xs) xs) → (b : Bool) → p x ≡ b → AllByRecursion P (take (cond b (1 + prefix_len p xs) 0) (x ∷ xs))
  one_more x xs more true e =
      let one : 1 + prefix_len p xs ≡ suc (prefix_len p xs) = omega arith in
      rw one ((decides x).0 e, more)
  one_more x xs more false e = tt

  -- each byte of the run passes
  pub run_passes : (xs : List ℕ) → AllByRecursion P (take (prefix_len p xs) xs)
  run_passes [] = tt
  run_passes (x ∷ xs) = one_more x xs (run_passes xs) (p x) refl

  -- no longer front passes
  pub run_longest : (front behind : List ℕ) → AllByRecursion P front → length front ≤ prefix_len p (front ++ behind)
  run_longest [] behind h = omega arith
  run_longest (x ∷ xs) behind h =
      let passes : p x ≡ true = (decides x).1 h.0 in
      rw passes (omega (arith, run_longest xs behind h.1))

  -- bytes that pass, and one that doesn't
  pub run_stops : (front : List ℕ) (c : ℕ) (behind : List ℕ) → AllByRecursion P front → (P c → ⊥) → prefix_len p (front ++ c ∷ behind) ≡ length front
  run_stops [] c behind h stops =
      let fails : p c ≡ false = false_from_ne_true (p c) (λ e. stops ((decides c).0 e)) in
      rw fails refl
  run_stops (x ∷ xs) c behind h stops =
      let passes : p x ≡ true = (decides x).1 h.0 in
      rw passes (omega (arith, run_stops xs c behind h.1 stops))
