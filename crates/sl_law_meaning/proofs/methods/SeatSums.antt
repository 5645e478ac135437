-- Sums of lists, entry by entry. A list has 0 past its end, so no lemma asks for equal lengths.
use Rattle.std.proofs.Common.{◌≡◌, ℕ, zero, suc, ◌+◌, ◌<◌, ◌≤◌, ◌⊎◌, List, [], ◌∷◌, length, get_or, sum, replicate, inl, inr, arith, refl, ◌∙◌}
use Rattle.std.proofs.lemmas.Bool.{cases_lt}
use Rattle.std.proofs.lemmas.List.{get_or_past, length-replicate}
use Rattle.std.proofs.lemmas.List.Sums.{sum_by-cons}
use Rattle.sl_law_meaning.proofs.methods.ListedEntries.{cases_all}

pub sum-cons : (x : ℕ) (xs : List ℕ) → sum (x ∷ xs) ≡ x + sum xs
sum-cons x xs = sum_by-cons (λ n. n) x xs

pub entry_le_sum : (s : List ℕ) (i : ℕ) → get_or s i 0 ≤ sum s
entry_le_sum [] i = omega arith
entry_le_sum (x ∷ xs) zero = omega (arith, sum-cons x xs)
entry_le_sum (x ∷ xs) (suc i) = let rest = entry_le_sum xs i in omega (arith, rest, sum-cons x xs)

-- entry by entry at most, so the sum is too
pub sum_mono : (s t : List ℕ) → ((i : ℕ) → get_or s i 0 ≤ get_or t i 0) → sum s ≤ sum t
sum_mono [] t h = omega arith
sum_mono (x ∷ xs) [] h = omega (arith, h 0, sum_mono xs [] (λ i. h (suc i)), sum-cons x xs)
sum_mono (x ∷ xs) (y ∷ ys) h = omega (arith, h 0, sum_mono xs ys (λ i. h (suc i)), sum-cons x xs, sum-cons y ys)

pub sum_mono_strict : (s t : List ℕ) (i : ℕ) → ((j : ℕ) → get_or s j 0 ≤ get_or t j 0) → get_or s i 0 < get_or t i 0 → sum s < sum t
sum_mono_strict [] t i h l = omega (arith, l, entry_le_sum t i)
sum_mono_strict (x ∷ xs) [] i h l = absurd (omega (arith, l))
sum_mono_strict (x ∷ xs) (y ∷ ys) zero h l = omega (arith, l, sum_mono xs ys (λ j. h (suc j)), sum-cons x xs, sum-cons y ys)
sum_mono_strict (x ∷ xs) (y ∷ ys) (suc i) h l = omega (arith, h 0, sum_mono_strict xs ys i (λ j. h (suc j)) l, sum-cons x xs, sum-cons y ys)

-- a list is greater than another somewhere, or nowhere
greater_or_none : (s t : List ℕ) → ((i : ℕ) → get_or t i 0 ≤ get_or s i 0) ⊎ ((i : ℕ) × (get_or s i 0 < get_or t i 0))
greater_or_none s t =
    elim (cases_all (λ i. get_or t i 0 ≤ get_or s i 0) (λ i. elim (cases_lt (get_or s i 0) (get_or t i 0)) [ inl l ↦ inr (λ le. omega arith) | inr g ↦ inl g ]) (length t)) [
      | inl all ↦ inl (λ i. elim (cases_lt i (length t)) [ inl l ↦ all i l | inr past ↦ omega (arith, get_or_past t i 0 past) ])
      | inr some ↦ inr (some.0, omega (arith, some.1))
    ]

-- of two lists the one with the greater sum is greater somewhere
pub some_less : (s t : List ℕ) → sum s < sum t → (i : ℕ) × (get_or s i 0 < get_or t i 0)
some_less s t h = elim (greater_or_none s t) [ inl none ↦ absurd (omega (arith, sum_mono t s none)) | inr some ↦ some ]

-- if t has no smaller sum and is smaller at one place, it is greater at another
pub some_greater : (s t : List ℕ) (i : ℕ) → sum s ≤ sum t → get_or t i 0 < get_or s i 0 → (j : ℕ) × (get_or s j 0 < get_or t j 0)
some_greater s t i h l = elim (greater_or_none s t) [ inl none ↦ absurd (omega (arith, sum_mono_strict t s i none l)) | inr some ↦ some ]

-- without minima each entry has 0
pub none_needed : (n i : ℕ) → get_or {A = ℕ} (replicate n 0) i 0 ≡ 0
none_needed zero i = refl
none_needed (suc n) zero = refl
none_needed (suc n) (suc i) = none_needed n i

pub length_zeros : (n : ℕ) → length {A = ℕ} (replicate n 0) ≡ n
length_zeros n = length-replicate n 0

pub sum_zeros : (n : ℕ) → sum (replicate n 0) ≡ 0
sum_zeros zero = refl
sum_zeros (suc n) = sum-cons 0 (replicate n 0) ∙ (let rest = sum_zeros n in omega (arith, rest))

-- a list without a 0 sums to its length at least
pub full : (s : List ℕ) → ((i : ℕ) → i < length s → 0 < get_or s i 0) → length s ≤ sum s
full [] h = omega arith
full (x ∷ xs) h = let rest = full xs (λ i l. h (suc i) (omega arith)) in let here = h 0 (omega arith) in omega (arith, rest, here, sum-cons x xs)

pub at_most_length : (s : List ℕ) → ((i : ℕ) → get_or s i 0 ≤ 1) → sum s ≤ length s
at_most_length [] h = omega arith
at_most_length (x ∷ xs) h = let rest = at_most_length xs (λ i. h (suc i)) in let here = h 0 in omega (arith, rest, here, sum-cons x xs)
