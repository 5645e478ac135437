-- Rankings: each list has one, and what stands where in it.
use Rattle.std.proofs.Common.{◌≡◌, ℕ, zero, suc, ◌+◌, ◌<◌, ◌≤◌, Bool, true, false, cond, List, [], ◌∷◌, Some, slice_get, All, Contains, IsPermutation, count_by, refl, sym, ap, subst, ◌∙◌, inl, inr, arith}
use Rattle.std.specs.Bool.{⊤}
use Rattle.std.specs.List.Sorted.{IsSorted}
use Rattle.std.specs.declared.cmp.Ordering.{Ordering}
use Rattle.std.specs.declared.cmp.Ordering.TheVariants.{Less, Equal, Greater}
use Rattle.std.specs.Ordering.{is_le, is_lt, is_gt, is_ge, is_eq, flip_args, ordering_reverse}
use Rattle.std.specs.Cmp.{Equal-is}
use Rattle.std.proofs.lemmas.Bool.{cases_Bool, false_from_ne_true, true≢false}
use Rattle.std.proofs.lemmas.Option.{same_Some}
use Rattle.std.proofs.lemmas.Cmp.{tied_itself}
use Rattle.std.proofs.lemmas.List.Elements.{All-cons, All-nil, All-weaker, All-head}
use Rattle.std.proofs.lemmas.List.Sorted.{All-permutation, IsPermutation-refl, IsPermutation-cons, IsPermutation-swap, IsPermutation-trans, sum_by-IsPermutation}
use Rattle.sl_base_quotients.specs.declared.entry.Entry.{Entry}
use Rattle.sl_base_quotients.specs.Entry.{entry_cmp}
use Rattle.sl_base_rankings.specs.Ranking.{insert_ranked, ranked}
use Rattle.sl_base_rankings.proofs.Finding.{Contains-head, All-at, count_by-cons, count_by-yes, count_by-no, count_by-none, counted, some_counted, Contains-none, slice_get-Contains}
use Rattle.sl_base_rankings.proofs.Greatest.{IsEntryOrder, AtMost, AtMost-self, AtMost-trans, AtMost-both, AtMost-other, le_not_gt, not_gt}

-- ---- the entries of a ranking
inserted : (x : Entry) (xs : List Entry) → IsPermutation (x ∷ xs) (insert_ranked x xs)
inserted x [] = IsPermutation-refl (x ∷ [])
inserted x (y ∷ ys) =
    elim (cases_Bool (is_gt (entry_cmp y x))) [
      | inl t ↦
          let swapped = IsPermutation-swap (x ∷ y ∷ ys) (y ∷ x ∷ ys) 0 1 (omega arith) (omega arith) refl in
          let below = IsPermutation-cons y (x ∷ ys) (insert_ranked x ys) (inserted x ys) in
          rw t (IsPermutation-trans (x ∷ y ∷ ys) (y ∷ x ∷ ys) (y ∷ insert_ranked x ys) swapped below)
      | inr f ↦ rw f (IsPermutation-refl (x ∷ y ∷ ys))
    ]

pub ranked-permutation : (xs : List Entry) → IsPermutation xs (ranked xs)
ranked-permutation [] = IsPermutation-refl []
ranked-permutation (x ∷ xs) =
    IsPermutation-trans (x ∷ xs) (x ∷ ranked xs) (insert_ranked x (ranked xs)) (IsPermutation-cons x xs (ranked xs) (ranked-permutation xs)) (inserted x (ranked xs))

-- the lists have each entry as often as the other, by how many of their entries pass any test
abbrev pub CountsAlike : List Entry → List Entry → Type 0
CountsAlike xs ys = (p : Entry → Bool) → count_by p xs ≡ count_by p ys

pub counts_alike : (xs ys : List Entry) → IsPermutation xs ys → CountsAlike xs ys
counts_alike xs ys h p = sym (sum_by-IsPermutation (λ x. cond (p x) 1 0) xs ys h)

-- none is greater than one before it
abbrev pub Falls : List Entry → Type 0
Falls [] = ⊤
Falls (x ∷ xs) = All (AtMost entry_cmp x) xs × Falls xs

module _ (o : IsEntryOrder entry_cmp) where
  insert_falls : (x : Entry) (xs : List Entry) → Falls xs → Falls (insert_ranked x xs)
  insert_falls x [] h = (All-nil (AtMost entry_cmp x), tt)
  insert_falls x (y ∷ ys) h =
      elim (cases_Bool (is_gt (entry_cmp y x))) [
        | inl t ↦
            let all = All-cons (AtMost entry_cmp y) x ys (AtMost-other entry_cmp o y x t) h.0 in
            rw t (All-permutation (AtMost entry_cmp y) (x ∷ ys) (insert_ranked x ys) (inserted x ys) all, insert_falls x ys h.1)
        | inr f ↦
            let first = le_not_gt (entry_cmp y x) f in
            let rest = All-weaker (AtMost entry_cmp y) (AtMost entry_cmp x) (λ z k. AtMost-trans entry_cmp o z y x k first) ys h.0 in
            rw f (All-cons (AtMost entry_cmp x) y ys first rest, h)
      ]

  pub ranked-falls : (xs : List Entry) → Falls (ranked xs)
  ranked-falls [] = tt
  ranked-falls (x ∷ xs) = insert_falls x (ranked xs) (ranked-falls xs)

  at_least : (x y : Entry) → is_le (entry_cmp y x) ≡ true → is_lt (entry_cmp x y) ≡ false
  at_least x y h = turned (entry_cmp x y) (entry_cmp y x) (o.total.antisymm x y) h
    where
      turned : (r s : Ordering) → r ≡ ordering_reverse s → is_le s ≡ true → is_lt r ≡ false
      turned Less Less e h = cc
      turned Less Equal e h = cc
      turned Less Greater e h = cc
      turned Equal s e h = refl
      turned Greater s e h = refl

  falls-sorted : (xs : List Entry) → Falls xs → IsSorted (flip_args entry_cmp) xs
  falls-sorted [] h k d low l = absurd (omega arith)
  falls-sorted (x ∷ []) h k d low l = absurd (omega arith)
  falls-sorted (x ∷ y ∷ ys) h zero d low l = at_least x y (All-head (AtMost entry_cmp x) y ys h.0)
  falls-sorted (x ∷ y ∷ ys) h (suc k) d low l = let e : suc k + 1 ≡ suc (k + 1) = omega arith in rw e (falls-sorted (y ∷ ys) h.1 k d (omega arith) (omega arith))

  pub ranked-sorted : (xs : List Entry) → IsSorted (flip_args entry_cmp) (ranked xs)
  ranked-sorted xs = falls-sorted (ranked xs) (ranked-falls xs)

  -- ---- a ranking is known by its entries
  counts-Contains : (xs ys : List Entry) (x : Entry) → CountsAlike xs ys → Contains xs x → Contains ys x
  counts-Contains xs ys x same here =
      let tied : Entry → Bool = λ y. is_eq (entry_cmp y x) in
      let itself : tied x ≡ true = ap is_eq (tied_itself o.total x) in
      let some : 0 < count_by tied ys = subst (λ (n : ℕ). 0 < n) (same tied) (some_counted tied xs x here itself) in
      let there = counted tied ys some in
      subst (λ (z : Entry). Contains ys z) (o.ties there.0 x ((Equal-is (entry_cmp there.0 x)).0 there.2)) there.1

  falls-unique : (xs ys : List Entry) → Falls xs → Falls ys → CountsAlike xs ys → xs ≡ ys
  falls-unique [] [] h k same = refl
  falls-unique [] (y ∷ ys) h k same = absurd (Contains-none y (counts-Contains (y ∷ ys) [] y (λ p. sym (same p)) (Contains-head y ys)))
  falls-unique (x ∷ xs) [] h k same = absurd (Contains-none x (counts-Contains (x ∷ xs) [] x same (Contains-head x xs)))
  falls-unique (x ∷ xs) (y ∷ ys) h k same =
      let most_x = All-cons (AtMost entry_cmp x) x xs (AtMost-self entry_cmp o x) h.0 in
      let most_y = All-cons (AtMost entry_cmp y) y ys (AtMost-self entry_cmp o y) k.0 in
      let below = All-at (AtMost entry_cmp y) (y ∷ ys) x most_y (counts-Contains (x ∷ xs) (y ∷ ys) x same (Contains-head x xs)) in
      let above = All-at (AtMost entry_cmp x) (x ∷ xs) y most_x (counts-Contains (y ∷ ys) (x ∷ xs) y (λ p. sym (same p)) (Contains-head y ys)) in
      let first : x ≡ y = AtMost-both entry_cmp o x y below above in
      let rest : CountsAlike xs ys = λ p.
      let one = count_by-cons p x xs in
      let other = count_by-cons p y ys in
      let both = same p in
      let tests : cond {A = ℕ} (p x) 1 0 ≡ cond {A = ℕ} (p y) 1 0 = ap (λ (z : Entry). cond {A = ℕ} (p z) 1 0) first in
      omega (arith, one, other, both, tests) in
      λ i. first i ∷ falls-unique xs ys h.1 k.1 rest i

  pub ranked-unique : (xs ys : List Entry) → CountsAlike xs ys → ranked xs ≡ ranked ys
  ranked-unique xs ys same =
      falls-unique (ranked xs) (ranked ys) (ranked-falls xs) (ranked-falls ys)
      (λ p. sym (counts_alike xs (ranked xs) (ranked-permutation xs) p) ∙ same p ∙ counts_alike ys (ranked ys) (ranked-permutation ys) p)

  -- ---- places in a ranking, by how many entries are greater and how many are no smaller
  ge_is_le : (x y : Entry) → is_ge (entry_cmp x y) ≡ is_le (entry_cmp y x)
  ge_is_le x y = turned (entry_cmp x y) (entry_cmp y x) (o.total.antisymm x y)
    where
      turned : (r s : Ordering) → r ≡ ordering_reverse s → is_ge r ≡ is_le s
      turned r Less e = ap is_ge e
      turned r Equal e = ap is_ge e
      turned r Greater e = ap is_ge e

  gt_ge : (r : Ordering) → is_gt r ≡ true → is_ge r ≡ true
  gt_ge Less h = cc
  gt_ge Equal h = cc
  gt_ge Greater h = refl

  level : (r : Ordering) → is_gt r ≡ false → is_ge r ≡ true → r ≡ Equal
  level Less h k = cc
  level Equal h k = refl
  level Greater h k = cc

  abbrev pub greater : Entry → List Entry → ℕ
  greater x xs = count_by (λ y. is_gt (entry_cmp y x)) xs

  abbrev pub no_smaller : Entry → List Entry → ℕ
  no_smaller x xs = count_by (λ y. is_ge (entry_cmp y x)) xs

  pub none_greater : (x : Entry) (xs : List Entry) → All (AtMost entry_cmp x) xs → greater x xs ≡ 0
  none_greater x xs h = count_by-none (λ y. is_gt (entry_cmp y x)) xs (λ y c. not_gt (entry_cmp y x) (All-at (AtMost entry_cmp x) xs y h c))

  all_smaller : (x y : Entry) (xs : List Entry) → All (AtMost entry_cmp y) xs → is_ge (entry_cmp y x) ≡ false → no_smaller x xs ≡ 0
  all_smaller x y xs h less =
      count_by-none (λ z. is_ge (entry_cmp z x)) xs (λ z c. false_from_ne_true _ (λ t.
      let up = AtMost-trans entry_cmp o x z y (sym (ge_is_le z x) ∙ t) (All-at (AtMost entry_cmp y) xs z h c) in
      true≢false (sym (ge_is_le y x ∙ up) ∙ less)))

  pub stands_at : (xs : List Entry) (i : ℕ) (x : Entry) → Falls xs → greater x xs ≤ i → i < no_smaller x xs → slice_get xs i ≡ Some x
  stands_at [] i x h low high = absurd (omega arith)
  stands_at (y ∷ ys) zero x h low high =
      elim (cases_Bool (is_gt (entry_cmp y x))) [
        | inl t ↦ let more = count_by-yes (λ z. is_gt (entry_cmp z x)) y ys t in absurd (omega (arith, more))
        | inr f ↦ elim (cases_Bool (is_ge (entry_cmp y x))) [
          | inl t ↦ ap Some (o.ties y x (level (entry_cmp y x) f t))
          | inr g ↦
              let first = count_by-no (λ z. is_ge (entry_cmp z x)) y ys g in
              let rest = all_smaller x y ys h.0 g in
              absurd (omega (arith, first, rest))
        ]
      ]
  stands_at (y ∷ ys) (suc i) x h low high =
      elim (cases_Bool (is_gt (entry_cmp y x))) [
        | inl t ↦
            let gt = count_by-yes (λ z. is_gt (entry_cmp z x)) y ys t in
            let ge = count_by-yes (λ z. is_ge (entry_cmp z x)) y ys (gt_ge (entry_cmp y x) t) in
            stands_at ys i x h.1 (omega (arith, gt)) (omega (arith, ge))
        | inr f ↦ elim (cases_Bool (is_ge (entry_cmp y x))) [
          | inl t ↦
              let same : y ≡ x = o.ties y x (level (entry_cmp y x) f t) in
              let none = none_greater x ys (subst (λ (z : Entry). All (AtMost entry_cmp z) ys) same h.0) in
              let ge = count_by-yes (λ z. is_ge (entry_cmp z x)) y ys t in
              stands_at ys i x h.1 (omega (arith, none)) (omega (arith, ge))
          | inr g ↦
              let first = count_by-no (λ z. is_ge (entry_cmp z x)) y ys g in
              let rest = all_smaller x y ys h.0 g in
              absurd (omega (arith, first, rest))
        ]
      ]

  pub placed_at : (xs : List Entry) (i : ℕ) (x : Entry) → Falls xs → slice_get xs i ≡ Some x → (greater x xs ≤ i) × (i < no_smaller x xs)
  placed_at [] i x h at = cc
  placed_at (y ∷ ys) zero x h at =
      let same : y ≡ x = same_Some y x at in
      let most = All-cons (AtMost entry_cmp y) y ys (AtMost-self entry_cmp o y) h.0 in
      let none = none_greater x (y ∷ ys) (subst (λ (z : Entry). All (AtMost entry_cmp z) (y ∷ ys)) same most) in
      let here = some_counted (λ z. is_ge (entry_cmp z x)) (y ∷ ys) y (Contains-head y ys) (ge_is_le y x ∙ ap (λ z. is_le (entry_cmp x z)) same ∙ AtMost-self entry_cmp o x) in
      (omega (arith, none), here)
  placed_at (y ∷ ys) (suc i) x h at =
      let r = placed_at ys i x h.1 at in
      let up : is_ge (entry_cmp y x) ≡ true = ge_is_le y x ∙ All-at (AtMost entry_cmp y) ys x h.0 (slice_get-Contains ys i x at) in
      let ge = count_by-yes (λ z. is_ge (entry_cmp z x)) y ys up in
      let low : greater x (y ∷ ys) ≤ suc i =
      elim (cases_Bool (is_gt (entry_cmp y x))) [
        | inl t ↦ let gt = count_by-yes (λ z. is_gt (entry_cmp z x)) y ys t in omega (arith, gt, r.0)
        | inr f ↦ let gt = count_by-no (λ z. is_gt (entry_cmp z x)) y ys f in omega (arith, gt, r.0)
      ] in
      (low, omega (arith, ge, r.1))
