-- Where a premise is missing, or an equivalence fails.
use Rattle.std.proofs.Common.{◌≡◌, ℕ, zero, suc, ◌+◌, ◌*◌, ◌<◌, ◌≤◌, ◌⊎◌, List, [], ◌∷◌, length, get_or, sum, inl, inr, arith, refl}
use Rattle.std.proofs.lemmas.Bool.{cases_lt}
use Rattle.sl_law_meaning.proofs.methods.SeatSums.{sum-cons}
use Rattle.sl_law_examples.specs.Failures.{NoVotes, LeastMostByTie}

pub no_votes : NoVotes
no_votes = record {
  shares = none;
  none = λ method h. let e : 1 ≡ 0 = h.outside 0 refl in omega (arith, e);
  remainders = λ prefer h. let e : 1 ≡ 0 = h.outside 0 refl in omega (arith, e);
} where
  none : (i : ℕ) → sum (0 ∷ []) * get_or (1 ∷ []) i 0 ≡ 1 * get_or (0 ∷ []) i 0
  none zero = refl
  none (suc i) = refl

pub sum_three : (xs : List ℕ) → length xs ≡ 3 → sum xs ≡ get_or xs 0 0 + get_or xs 1 0 + get_or xs 2 0
sum_three [] e = absurd (omega arith)
sum_three (a ∷ []) e = absurd (omega arith)
sum_three (a ∷ b ∷ []) e = absurd (omega arith)
sum_three (a ∷ b ∷ c ∷ []) e = let p = sum-cons a (b ∷ c ∷ []) in let q = sum-cons b (c ∷ []) in let r = sum-cons c [] in omega (arith, p, q, r)
sum_three (a ∷ b ∷ c ∷ d ∷ xs) e = absurd (omega arith)

-- some entry has at least half a seat for a vote
most : (t : List ℕ) → length t ≡ 3 → sum t ≡ 2 → (1 ≤ get_or t 0 0) ⊎ ((1 ≤ get_or t 1 0) ⊎ (2 ≤ get_or t 2 0))
most t long total =
    let all = sum_three t long in
    elim (cases_lt 0 (get_or t 0 0)) [
      | inl a ↦ inl (omega (arith, a))
      | inr none ↦ elim (cases_lt 0 (get_or t 1 0)) [ inl b ↦ inr (inl (omega (arith, b))) | inr neither ↦ inr (inr (omega (arith, all, total, none, neither))) ]
    ]

pub least_most_by_tie : LeastMostByTie
least_most_by_tie = record {
  given = record { same_length = refl; total = refl; outside = outside };
  least = λ t h i f. by_entry t h.same_length h.total i f;
  none = λ h. let le : 3 * 1 ≤ 2 * 1 = h.min_max 0 2 (omega arith) (omega arith) (omega arith) in omega (arith, le);
} where
  outside : (i : ℕ) → get_or {A = ℕ} (2 ∷ 2 ∷ 3 ∷ []) i 0 ≡ 0 → get_or {A = ℕ} (1 ∷ 1 ∷ 0 ∷ []) i 0 ≡ 0
  outside zero e = absurd (omega (arith, e))
  outside (suc zero) e = absurd (omega (arith, e))
  outside (suc (suc zero)) e = refl
  outside (suc (suc (suc i))) e = refl

  half : (t : List ℕ) → length t ≡ 3 → sum t ≡ 2 → (j : ℕ) × (0 < get_or {A = ℕ} (2 ∷ 2 ∷ 3 ∷ []) j 0) × (1 * get_or {A = ℕ} (2 ∷ 2 ∷ 3 ∷ []) j 0 ≤ get_or t j 0 * 2)
  half t long total =
      elim (most t long total) [
        | inl a ↦ (0, omega arith, omega (arith, a))
        | inr rest ↦ elim rest [ inl b ↦ (1, omega arith, omega (arith, b)) | inr c ↦ (2, omega arith, omega (arith, c)) ]
      ]

  by_entry : (t : List ℕ) → length t ≡ 3 → sum t ≡ 2 → (i : ℕ) → 0 < get_or {A = ℕ} (2 ∷ 2 ∷ 3 ∷ []) i 0 →
      (j : ℕ) × (0 < get_or {A = ℕ} (2 ∷ 2 ∷ 3 ∷ []) j 0) × (get_or {A = ℕ} (1 ∷ 1 ∷ 0 ∷ []) i 0 * get_or {A = ℕ} (2 ∷ 2 ∷ 3 ∷ []) j 0 ≤ get_or t j 0 * get_or {A = ℕ} (2 ∷ 2 ∷ 3 ∷ []) i 0)
  by_entry t long total zero f = half t long total
  by_entry t long total (suc zero) f = half t long total
  by_entry t long total (suc (suc zero)) f = (0, omega arith, omega arith)
  by_entry t long total (suc (suc (suc i))) f = absurd (omega (arith, f))
