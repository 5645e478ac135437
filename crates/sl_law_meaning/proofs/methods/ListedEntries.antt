-- What a filter keeps of a list of numbers, and the numbers below a bound of which a decidable fact holds.
use Rattle.std.proofs.Common.{◌≡◌, ℕ, zero, suc, ◌+◌, ◌<◌, ◌⊎◌, Bool, true, false, List, [], ◌∷◌, inl, inr, arith, refl, subst, sym}
use Rattle.std.specs.Prelude.{Contains, filter}
use Rattle.std.specs.List.{range_with_len}
use Rattle.std.proofs.lemmas.Bool.{cases_eq, cond_both, both_ways}
use Rattle.std.proofs.lemmas.List.Elements.{All-contains, All-contains_itself, All-filter, filter_passes}
use Rattle.std.proofs.lemmas.List.FromFn.{length-range_with_len, get_or-range_with_len}
use Rattle.std.proofs.lemmas.List.Kept.{IsStrictlyIncreasing-filter}
use Rattle.sl_law_meaning.specs.methods.Ties.{Distinct, Lists}
use Rattle.sl_law_meaning.proofs.methods.RaisedSeats.{Contains-head, Contains-tail, Contains-cases, Contains-none}

module _ (p : ℕ → Bool) where
  pub filter_only : (xs : List ℕ) (i : ℕ) → Contains (filter p xs) i → Contains xs i × (p i ≡ true)
  filter_only xs i c = (
    All-contains (Contains xs) (filter p xs) i (All-filter p (Contains xs) xs (All-contains_itself xs)) c,
    All-contains (λ x. p x ≡ true) (filter p xs) i (filter_passes p xs) c,
  )

  pub filter_has : (xs : List ℕ) (i : ℕ) → Contains xs i → p i ≡ true → Contains (filter p xs) i
  filter_has [] i c e = absurd (Contains-none i c)
  filter_has (x ∷ xs) i c e =
      cond_both (p x) (x ∷ filter p xs) (filter p xs) (λ l. Contains l i)
      (λ passes. elim (Contains-cases x xs i c) [ inl s ↦ subst (λ z. Contains (x ∷ filter p xs) z) s (Contains-head x (filter p xs)) | inr h ↦ Contains-tail x (filter p xs) i (filter_has xs i h e) ])
      (λ fails. elim (Contains-cases x xs i c) [ inl s ↦ absurd (both_ways (p x) fails (subst (λ z. p z ≡ true) (sym s) e)) | inr h ↦ filter_has xs i h e ])

  pub filter_distinct : (xs : List ℕ) → Distinct xs → Distinct (filter p xs)
  filter_distinct [] d = tt
  filter_distinct (x ∷ xs) d =
      cond_both (p x) (x ∷ filter p xs) (filter p xs) Distinct (λ passes. (λ c. d.0 (filter_only xs x c).0, filter_distinct xs d.1)) (λ fails. filter_distinct xs d.1)

-- the test of a fact that is decided
is_so : {P : Type 0} → P ⊎ (P → ⊥) → Bool
is_so (inl h) = true
is_so (inr out) = false

so : {P : Type 0} (d : P ⊎ (P → ⊥)) → is_so d ≡ true → P
unfolding is_so
so (inl h) is = h
so (inr out) is = cc

its_test : {P : Type 0} (d : P ⊎ (P → ⊥)) → P → is_so d ≡ true
unfolding is_so
its_test (inl h) p = refl
its_test (inr out) p = absurd (out p)

-- if only numbers below n have the property, there is a list of those that have it
pub find_all : (P : ℕ → Type 0) → ((i : ℕ) → P i ⊎ (P i → ⊥)) → (n : ℕ) → ((i : ℕ) → P i → i < n) → (xs : List ℕ) × Lists P xs
find_all P dec n bound =
    let p : ℕ → Bool = λ i. is_so (dec i) in
    let all = range_with_len 0 n in
    let long = length-range_with_len 0 n in (
      filter p all,
      record {
        in_order = IsStrictlyIncreasing-filter p all (λ k less. omega (arith, long, get_or-range_with_len 0 n k 0 (omega arith), get_or-range_with_len 0 n (k + 1) 0 (omega arith)));
        has = λ i h. filter_has p all i (i, omega (arith, long, bound i h), omega (arith, get_or-range_with_len 0 n i i (bound i h))) (its_test (dec i) h);
        has_only = λ i c. so (dec i) (filter_only p all i c).1;
      },
    )

-- what holds below a number and at it holds below the next one
pub below_next : (P : ℕ → Type 0) (n : ℕ) → ((i : ℕ) → i < n → P i) → P n → (i : ℕ) → i < suc n → P i
below_next P n before here i less = elim (cases_eq n i) [ inl e ↦ subst P e here | inr ne ↦ before i (omega arith) ]

-- a fact that can be decided holds of each number below a bound, or fails at one
pub cases_all : (P : ℕ → Type 0) → ((i : ℕ) → P i ⊎ (P i → ⊥)) → (n : ℕ) → ((i : ℕ) → i < n → P i) ⊎ ((i : ℕ) × (P i → ⊥) × (i < n))
cases_all P dec zero = inl (λ i l. absurd (omega arith))
cases_all P dec (suc n) =
    elim (cases_all P dec n) [
      | inl all ↦ elim (dec n) [
        | inl p ↦ inl (below_next P n all p)
        | inr out ↦ inr (n, out, omega arith)
      ]
      | inr some ↦ inr (some.0, some.1, let l = some.2 in omega (arith, l))
    ]
