-- Tests of each element of a list.
use Rattle.std.proofs.Common.{◌≡◌, ℕ, sum, nat_lt, sym, inl, inr, refl, ◌<◌, Bool, true, false, List, [], ◌∷◌, length, map, subst, arith}
use Rattle.std.proofs.lemmas.List.{get_or-map, length-map}
use Rattle.std.specs.Bool.{MatchBool}
use Rattle.std.specs.List.{All, AllWithin, HoldsAt, list_any}
use Rattle.std.proofs.lemmas.Bool.{ltb-true, ltb-false, or_cases, or_parts, true≢false}
use Rattle.std.proofs.lemmas.List.Sums.{sum_by-cons}
use Rattle.std.proofs.lemmas.List.Elements.{All-map, All-get_or, All-from_all_within}

module _ {A B : Type 0} (P : B → Type 0) (f : A → B) where
  not_all : (xs : List A) (k : ℕ) → k < length xs → HoldsAt (λ x. ¬ P (f x)) xs k → ¬ All P (map f xs)
  not_all [] k within fails all = omega (arith, within)
  not_all (x ∷ xs) k within fails all =
      fails x (subst P (get_or-map f (x ∷ xs) k x (f x) within) (All-get_or P (map f (x ∷ xs)) k (f x) (omega (arith, within, length-map (x ∷ xs) f)) all))

  -- what `all` answers of references is whether P holds of each value
  pub all_or_not : (xs : List A) (r : Bool) → MatchBool r (AllWithin (λ x. P (f x)) xs 0 (length xs)) ((k : ℕ) × (k < length xs) × HoldsAt (λ x. ¬ P (f x)) xs k)
      → MatchBool r (All P (map f xs)) (¬ All P (map f xs))
  all_or_not xs true all = All-map P f xs (All-from_all_within (λ x. P (f x)) xs all)
  all_or_not xs false (k, within, fails) = not_all xs k within fails

-- a list has an element above 0 where its sum is above 0
pub sum_or_none : (xs : List ℕ) (r : Bool) → r ≡ list_any (λ x. nat_lt 0 x) xs → MatchBool r (0 < sum xs) (sum xs ≡ 0)
sum_or_none xs r is = by xs r is
  where
    by : (xs : List ℕ) (r : Bool) → r ≡ list_any (λ x. nat_lt 0 x) xs → MatchBool r (0 < sum xs) (sum xs ≡ 0)
    by [] true is = absurd (true≢false is)
    by [] false is = refl
    by (x ∷ xs) true is = elim (or_cases (nat_lt 0 x) (list_any (λ x. nat_lt 0 x) xs) (sym is)) [
      | inl here ↦ omega (arith, ltb-true 0 x here, sum_by-cons (λ x. x) x xs)
      | inr later ↦ (let more : 0 < sum xs = by xs true (sym later) in omega (arith, more, sum_by-cons (λ x. x) x xs))
    ]
    by (x ∷ xs) false is =
        let none = or_parts (nat_lt 0 x) (list_any (λ x. nat_lt 0 x) xs) (sym is) in
        let rest : sum xs ≡ 0 = by xs false (sym none.1) in
        omega (arith, ltb-false 0 x none.0, rest, sum_by-cons (λ x. x) x xs)
