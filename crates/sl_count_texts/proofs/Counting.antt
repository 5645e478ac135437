-- Columns that sum: one pass over a list adds to a number of the column for each element.
use Rattle.std.proofs.Common.{◌≡◌, ◌≢◌, ℕ, ◌+◌, ◌*◌, ◌<◌, ◌≤◌, Bool, cond, true, false, List, length, map, take, replicate, get_or, set, sum_by, sym, ap, subst, ◌∙◌, inl, inr, arith}
use Rattle.std.specs.List.{count_by, range_with_len}
use Rattle.std.proofs.lemmas.Bool.{cases_eq}
use Rattle.std.proofs.lemmas.List.{length-set, length-replicate, get_or-replicate, get_or-set_same, get_or-set_other, get_or_read, take_all, length-take-le}
use Rattle.std.proofs.lemmas.List.FromFn.{fill_by_all}
use Rattle.std.proofs.lemmas.List.Sums.{sum_by_more, count_by-le-length}

-- the k-th of n numbers is the sum of the k-th terms of the first i elements
pub record Sums {X : Type 0} (term : ℕ → X → ℕ) (xs : List X) (n i : ℕ) (column : List ℕ) : Type 0 where
  pub size : length column ≡ n
  pub sum : (k : ℕ) → k < n → get_or column k 0 ≡ sum_by (term k) (take i xs)

-- it says how many of the first i elements pass the k-th test
abbrev pub Counts : {X : Type 0} → (ℕ → X → Bool) → List X → ℕ → ℕ → List ℕ → Type 0
Counts test = Sums (λ k x. cond (test k x) 1 0)

-- no number is above i times the greatest term
abbrev pub AreBelow : ℕ → ℕ → ℕ → List ℕ → Type 0
AreBelow most n i column = (k : ℕ) → k < n → get_or column k 0 ≤ i * most

module _ {X : Type 0} (term : ℕ → X → ℕ) (xs : List X) (n : ℕ) where
  -- a column of that many zeros, before the first element
  pub sums_none : (column : List ℕ) (m : ℕ) → column ≡ replicate m 0 → m ≡ n → Sums term xs n 0 column
  sums_none column m blank size =
      subst (Sums term xs n 0) (sym (blank ∙ ap (λ k. replicate k 0) size)) (record { size = length-replicate n 0; sum = λ k h. get_or-replicate n k 0 0 h })

  module _ (i : ℕ) (column : List ℕ) (so_far : Sums term xs n i column) where
    -- a read of a place gives its sum
    pub read_sum : (k n' : ℕ) → k < n → n' ≡ get_or column k n' → n' ≡ get_or column k 0
    read_sum k n' within read = get_or_read column k n' (omega (arith, so_far.size)) read 0

    module _ (x : X) (within : i < length xs) (here : get_or xs i x ≡ x) where
      more : (k m : ℕ) → term k x ≡ m → sum_by (term k) (take (i + 1) xs) ≡ sum_by (term k) (take i xs) + m
      more k m is = sum_by_more (term k) xs i x within ∙ ap (λ t. sum_by (term k) (take i xs) + t) (ap (term k) here ∙ is)

      -- the element adds to the number of one place alone
      pub sums_one : (place n' m : ℕ) (after : List ℕ) → place < n → n' ≡ get_or column place n' → after ≡ set column place (n' + m)
          → term place x ≡ m → ((k : ℕ) → k ≢ place → term k x ≡ 0) → Sums term xs n (i + 1) after
      sums_one place n' m after in_column read written adds alone =
          subst (Sums term xs n (i + 1)) (sym (written ∙ ap (λ v. set column place (v + m)) (read_sum place n' in_column read))) (record {
            size = length-set column place _ ∙ so_far.size;
            sum = λ k h. elim (cases_eq k place) [
              | inl same ↦
                  let at_place : get_or (set column place (get_or column place 0 + m)) place 0 ≡ get_or column place 0 + m = get_or-set_same column place _ 0 (omega (arith, so_far.size)) in
                  let one = more place m adds in
                  let was = so_far.sum place in_column in
                  rw same (omega (arith, at_place, one, was))
              | inr other ↦
                  let none = more k 0 (alone k other) in
                  let was = so_far.sum k h in
                  get_or-set_other column place k _ 0 other ∙ omega (arith, was, none)
            ];
          })

      -- the element adds to none
      pub sums_no : (after : List ℕ) → after ≡ column → ((k : ℕ) → term k x ≡ 0) → Sums term xs n (i + 1) after
      sums_no after unchanged none = subst (Sums term xs n (i + 1)) (sym unchanged) (record {
        size = so_far.size;
        sum = λ k h. let was = so_far.sum k h in let zero = more k 0 (none k) in omega (arith, was, zero);
      })

  -- after the last element
  pub sums_all : (i : ℕ) (column : List ℕ) → length xs ≤ i → Sums term xs n i column → column ≡ map (λ k. sum_by (term k) xs) (range_with_len 0 n)
  sums_all i column all so_far =
      fill_by_all (λ k. sum_by (term k) xs) column n 0 so_far.size (λ k h. so_far.sum k h ∙ ap (sum_by (term k)) (take_all i xs all))

module _ {X : Type 0} (test : ℕ → X → Bool) (xs : List X) (n i : ℕ) (column : List ℕ) (so_far : Counts test xs n i column) where
  -- a count is not above the number of elements
  pub count_le : (k n' : ℕ) → k < n → i ≤ length xs → n' ≡ get_or column k n' → n' ≤ i
  count_le k n' within some read =
      omega (arith, read_sum (λ k x. cond (test k x) 1 0) xs n i column so_far k n' within read, so_far.sum k within, count_by-le-length (test k) (take i xs), length-take-le i xs some)

  module _ (x : X) (within : i < length xs) (here : get_or xs i x ≡ x) where
    -- the element passes the test of one place alone, whose number grows by one
    pub counts_one : (place n' : ℕ) (after : List ℕ) → place < n → n' ≡ get_or column place n' → after ≡ set column place (n' + 1)
        → test place x ≡ true → ((k : ℕ) → k ≢ place → test k x ≡ false) → Counts test xs n (i + 1) after
    counts_one place n' after in_column read written passes alone =
        sums_one (λ k x. cond (test k x) 1 0) xs n i column so_far x within here place n' 1 after in_column read written (ap (λ b. cond {A = ℕ} b 1 0) passes) (λ k h. ap (λ b. cond {A = ℕ} b 1 0) (alone k h))

    -- the element passes no test
    pub counts_no : (after : List ℕ) → after ≡ column → ((k : ℕ) → test k x ≡ false) → Counts test xs n (i + 1) after
    counts_no after unchanged fails = sums_no (λ k x. cond (test k x) 1 0) xs n i column so_far x within here after unchanged (λ k. ap (λ b. cond {A = ℕ} b 1 0) (fails k))

-- after the last element
pub counts_all : {X : Type 0} (test : ℕ → X → Bool) (xs : List X) (n i : ℕ) (column : List ℕ) → length xs ≤ i → Counts test xs n i column → column ≡ map (λ k. count_by (test k) xs) (range_with_len 0 n)
counts_all test xs n i column all so_far = sums_all (λ k x. cond (test k x) 1 0) xs n i column all so_far
