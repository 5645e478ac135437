-- Sums over parties and Länder, counts of the first winners, and columns changed cell by cell.
use Rattle.std.proofs.Common.{◌≡◌, ◌≢◌, ℕ, zero, suc, ◌+◌, ◌*◌, ◌<◌, ◌≤◌, Bool, true, false, cond, List, [], ◌∷◌, length, take, get_or, Some, slice_get, sum_by, count_by, refl, sym, ap, subst, ◌∙◌, inl, inr, arith}
use Rattle.std.specs.List.{All, range_with_len}
use Rattle.std.proofs.lemmas.Bool.{cases_eq, cases_lt}
use Rattle.std.proofs.lemmas.List.{get_or_past, map-id}
use Rattle.std.proofs.lemmas.List.Elements.{All-get_or}
use Rattle.std.proofs.lemmas.List.FromFn.{sum_by-map-range_with_len_more}
use Rattle.std.proofs.lemmas.List.Sums.{sum_by-cons, sum_by_more, sum_by-take-le, count_by-le-length}
use Rattle.std.proofs.lemmas.Option.{slice_get_cases, get_or_from_slice_get, none-some}
use Rattle.sl_code_semantics.specs.Effects.{one_if}

-- ---- sums

pub range_more : (f : ℕ → ℕ) (n : ℕ) → sum_by f (range_with_len 0 (n + 1)) ≡ sum_by f (range_with_len 0 n) + f n
range_more f n =
    ap (sum_by f) (sym (map-id (range_with_len 0 (n + 1)))) ∙ sum_by-map-range_with_len_more f (λ x. x) 0 n n (omega arith)
    ∙ ap (λ xs. sum_by f xs + f n) (map-id (range_with_len 0 n))

-- with at most so much for each
pub range_within : (f : ℕ → ℕ) (m n : ℕ) → ((i : ℕ) → f i ≤ m) → sum_by f (range_with_len 0 n) ≤ n * m
range_within f m zero each = omega arith
range_within f m (suc n) each =
    let same : suc n ≡ n + 1 = omega arith in
    subst (λ k. sum_by f (range_with_len 0 k) ≤ k * m) (sym same) (omega (arith, range_more f n, range_within f m n each, each n))

sum_zeros : (ys : List ℕ) → sum_by (λ y. 0) ys ≡ 0
sum_zeros [] = refl
sum_zeros (y ∷ ys) = sum_by-cons (λ y. 0) y ys ∙ omega (arith, sum_zeros ys)

module _ (v : ℕ → ℕ → ℕ) where
  one_row : (x : ℕ) (xs ys : List ℕ) → sum_by (v x) ys + sum_by (λ y. sum_by (λ z. v z y) xs) ys ≡ sum_by (λ y. sum_by (λ z. v z y) (x ∷ xs)) ys
  one_row x xs [] = refl
  one_row x xs (y ∷ ys) =
      let both : ℕ → ℕ = λ y. sum_by (λ z. v z y) (x ∷ xs) in
      let rest : ℕ → ℕ = λ y. sum_by (λ z. v z y) xs in
      let here : both y ≡ v x y + rest y = sum_by-cons (λ z. v z y) x xs in
      omega (arith, here, one_row x xs ys, sum_by-cons (v x) y ys, sum_by-cons rest y ys, sum_by-cons both y ys)

  -- by rows, and by columns
  pub sum_turned : (xs ys : List ℕ) → sum_by (λ x. sum_by (v x) ys) xs ≡ sum_by (λ y. sum_by (λ x. v x y) xs) ys
  sum_turned [] ys = sym (sum_zeros ys)
  sum_turned (x ∷ xs) ys =
      sum_by-cons (λ x. sum_by (v x) ys) x xs ∙ ap (λ n. sum_by (v x) ys + n) (sum_turned xs ys) ∙ one_row x xs ys

-- what holds of each element holds of one that is read, if it holds of what is read past the end
pub all_read : {X : Type 0} (P : X → Type 0) (xs : List X) (i : ℕ) (d : X) → P d → All P xs → P (get_or xs i d)
all_read P xs i d none each =
    elim (cases_lt i (length xs)) [
      | inl less ↦ All-get_or P xs i d less each
      | inr past ↦ subst P (sym (get_or_past xs i d past)) none
    ]

-- ---- counts

one_of : (b : Bool) → cond {A = ℕ} b 1 0 ≡ one_if b
one_of true = refl
one_of false = refl

pub count_more : {X : Type 0} (p : X → Bool) (xs : List X) (i : ℕ) (x : X) → slice_get xs i ≡ Some x → count_by p (take (i + 1) xs) ≡ count_by p (take i xs) + one_if (p x)
count_more p xs i x at = elim ((slice_get_cases xs i).1) [
  | inl there ↦ (
      let same : get_or xs i x ≡ x = get_or_from_slice_get xs i x x at in
      sum_by_more (λ y. cond (p y) 1 0) xs i x there.1 ∙ ap (λ y. count_by p (take i xs) + cond (p y) 1 0) same ∙ ap (λ n. count_by p (take i xs) + n) (one_of (p x)))
  | inr past ↦ absurd (none-some x (sym past.1 ∙ at))
]

pub count_within : {X : Type 0} (p : X → Bool) (xs : List X) (i : ℕ) → count_by p (take i xs) ≤ length xs
count_within p xs i = omega (arith, sum_by-take-le (λ y. cond (p y) 1 0) xs i, count_by-le-length p xs)

-- ---- columns

-- the first j of n cells are the new ones, and the others the old ones
pub record Changed (old new : ℕ → ℕ) (n j : ℕ) (column : ℕ → ℕ) : Type 0 where
  pub done : (q : ℕ) → q < j → column q ≡ new q
  pub rest : (q : ℕ) → j ≤ q → q < n → column q ≡ old q

pub next_changed : (old new : ℕ → ℕ) (n j : ℕ) (before after : ℕ → ℕ) → Changed old new n j before → ((q : ℕ) → q ≢ j → after q ≡ before q) → after j ≡ new j
    → Changed old new n (j + 1) after
next_changed old new n j before after h same here = record {
  done = λ q less. elim (cases_eq q j) [
    | inl is ↦ ap after is ∙ here ∙ ap new (sym is)
    | inr other ↦ same q other ∙ h.done q (omega arith)
  ];
  rest = λ q high less. same q (λ is. let at : q ≡ j = is in omega (arith, at)) ∙ h.rest q (omega arith) less;
}
