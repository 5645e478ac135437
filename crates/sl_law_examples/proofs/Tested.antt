-- Tops of ladders, by tests that compute.
use Rattle.std.proofs.Common.{◌≡◌, ℕ, zero, suc, ◌-◌, ◌*◌, ◌<◌, Bool, true, List, length, get_or, sum, inl, inr, arith, refl, subst}
use Rattle.std.specs.Prelude.{nat_le, ◌&&◌, ◌||◌, not}
use Rattle.std.proofs.lemmas.Bool.{cases_lt, cases_eq, and_parts, or_cases, leb-true, ltb-true, not-true, both_ways}
use Rattle.std.proofs.lemmas.List.{get_or_past}
use Rattle.sl_base_quotients.specs.Quotient.{Quotient}
use Rattle.sl_law_meaning.specs.methods.Steps.{is_below}
use Rattle.sl_law_meaning.specs.laws.Ladders.{Ladders, Has, AreFalling, IsOn, IsTop, IsSettled}

-- the test passes at each number below n
abbrev all_below : (ℕ → Bool) → ℕ → Bool
all_below p zero = true
all_below p (suc n) = p n && all_below p n

all_below_at : (p : ℕ → Bool) (n i : ℕ) → all_below p n ≡ true → i < n → p i ≡ true
all_below_at p zero i e l = absurd (omega arith)
all_below_at p (suc n) i e l =
    let parts = and_parts (p n) (all_below p n) e in
    elim (cases_eq n i) [ inl s ↦ subst (λ k. p k ≡ true) s parts.0 | inr ne ↦ all_below_at p n i parts.1 (omega arith) ]

abbrev is_at_most : Quotient → Quotient → Bool
is_at_most x y = nat_le (x.num * y.den) (y.num * x.den)

-- each entry has its base or seats that there are, and each last seat above a base and each next seat pass the test R
module _ (R : Quotient → Quotient → Bool) (l : Ladders) (s : List ℕ) where
  abbrev on_test : ℕ → Bool
  on_test i = nat_le (get_or l.base i 0) (get_or s i 0) && (nat_le (get_or s i 0) (get_or l.base i 0) || l.has i (get_or s i 0 - 1))

  abbrev apart_test : ℕ → ℕ → Bool
  apart_test i j =
      nat_le (get_or s i 0) (get_or l.base i 0) || (not (l.has j (get_or s j 0)) || R (l.rank j (get_or s j 0)) (l.rank i (get_or s i 0 - 1)))

  abbrev passes : Bool
  passes = all_below (λ i. on_test i && all_below (λ j. apart_test i j) (length l.base)) (length l.base)

  module _ (law : AreFalling l) (e : length s ≡ length l.base) (test : passes ≡ true) where
    row : (i : ℕ) → i < length l.base → (on_test i ≡ true) × (all_below (λ j. apart_test i j) (length l.base) ≡ true)
    row i less = and_parts (on_test i) (all_below (λ j. apart_test i j) (length l.base))
        (all_below_at (λ i. on_test i && all_below (λ j. apart_test i j) (length l.base)) (length l.base) i test less)

    in_range : (i : ℕ) → get_or l.base i 0 < get_or s i 0 → i < length l.base
    in_range i more =
        elim (cases_lt i (length l.base)) [ inl less ↦ less | inr g ↦ absurd (let past = get_or_past s i 0 (omega arith) in omega (arith, past, more)) ]

    is_on : IsOn l s
    is_on = record {
      same_length = e;
      above = λ i. elim (cases_lt i (length l.base)) [
        | inl less ↦ leb-true (get_or l.base i 0) (get_or s i 0) (and_parts (nat_le (get_or l.base i 0) (get_or s i 0)) (nat_le (get_or s i 0) (get_or l.base i 0) || l.has i (get_or s i 0 - 1)) (row i less).0).0
        | inr g ↦ (let past = get_or_past l.base i 0 g in omega (arith, past))
      ];
      there = λ i more.
          let parts = and_parts (nat_le (get_or l.base i 0) (get_or s i 0)) (nat_le (get_or s i 0) (get_or l.base i 0) || l.has i (get_or s i 0 - 1)) (row i (in_range i more)).0 in
          elim (or_cases (nat_le (get_or s i 0) (get_or l.base i 0)) (l.has i (get_or s i 0 - 1)) parts.1) [
            | inl le ↦ absurd (let h = leb-true (get_or s i 0) (get_or l.base i 0) le in omega (arith, h, more))
            | inr h ↦ h
          ];
    }

    apart : (i j : ℕ) → get_or l.base i 0 < get_or s i 0 → Has l j (get_or s j 0) → R (l.rank j (get_or s j 0)) (l.rank i (get_or s i 0 - 1)) ≡ true
    apart i j more next =
        let A = nat_le (get_or s i 0) (get_or l.base i 0) in
        let B = not (l.has j (get_or s j 0)) in
        let C = R (l.rank j (get_or s j 0)) (l.rank i (get_or s i 0 - 1)) in
        let here = all_below_at (λ j. apart_test i j) (length l.base) j (row i (in_range i more)).1 (law.within j (get_or s j 0) next) in
        elim (or_cases A (B || C) here) [
          | inl le ↦ absurd (let h = leb-true (get_or s i 0) (get_or l.base i 0) le in omega (arith, h, more))
          | inr rest ↦ elim (or_cases B C rest) [
            | inl none ↦ absurd (both_ways (l.has j (get_or s j 0)) (not-true (l.has j (get_or s j 0)) none) next)
            | inr c ↦ c
          ]
        ]

abbrev pub settled_test : Ladders → List ℕ → Bool
settled_test l s = passes (λ x y. is_below x y) l s

abbrev pub top_test : Ladders → List ℕ → Bool
top_test l s = passes (λ x y. is_at_most x y) l s

module _ (l : Ladders) (s : List ℕ) (law : AreFalling l) (e : length s ≡ length l.base) where
  pub settled_by_test : settled_test l s ≡ true → IsSettled l s
  settled_by_test test = record {
    on = is_on (λ x y. is_below x y) l s law e test;
    apart = λ i j more next.
        ltb-true ((l.rank j (get_or s j 0)).num * (l.rank i (get_or s i 0 - 1)).den) ((l.rank i (get_or s i 0 - 1)).num * (l.rank j (get_or s j 0)).den)
        (apart (λ x y. is_below x y) l s law e test i j more next);
  }

  pub top_by_test : top_test l s ≡ true → IsTop l (sum s) s
  top_by_test test = record {
    on = is_on (λ x y. is_at_most x y) l s law e test;
    total = refl;
    min_max = λ i j more next.
        leb-true ((l.rank j (get_or s j 0)).num * (l.rank i (get_or s i 0 - 1)).den) ((l.rank i (get_or s i 0 - 1)).num * (l.rank j (get_or s j 0)).den)
        (apart (λ x y. is_at_most x y) l s law e test i j more next);
  }
