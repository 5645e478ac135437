-- The steps text of a table does not show in which order the steps and the weights stand, where none comes twice.
use Rattle.std.proofs.Common.{◌≡◌, ℕ, ◌≤◌, Bool, true, false, ◌&&◌, not, cond, List, [], ◌∷◌, ◌++◌, length, get_or, flat_map, refl, sym, ap, subst, ◌∙◌, inl, inr, arith, Ordering, Less, Equal, Greater, is_lt}
use Rattle.std.specs.List.{All, AllByRecursion, Contains, IsDistinct, filter}
use Rattle.std.specs.List.Sorted.{IsPermutation, ties}
use Rattle.std.specs.Ordering.{is_gt, ordering_reverse}
use Rattle.std.proofs.lemmas.Bool.{cases_Bool, cond-true, cond-false, true≢false}
use Rattle.std.proofs.lemmas.Cmp.{nat_list_cmp_total}
use Rattle.std.proofs.lemmas.List.Elements.{All-nil, All-cons, All-head, All-filter, All-contains, All-contains_itself, Contains-append_right, filter_passes}
use Rattle.std.proofs.lemmas.List.Sorted.{ranks_by, sum_by-IsPermutation, Contains-permutation, IsPermutation-sym}
use Rattle.std.proofs.lemmas.List.Sums.{length-filter}
use Rattle.std.proofs.lemmas.Map.Keys.{IsDistinct-head, IsDistinct-tail}
use Rattle.std.proofs.lemmas.Map.Lookups.{exact_bytes}
use Rattle.sl_law_meaning.specs.declared.table.Weight.{Weight}
use Rattle.sl_law_meaning.specs.laws.MeaningLaws.{same_seat, same_entry, RecordsComeOnce}
use Rattle.sl_law_meaning.specs.meaning.Means.{SameTable}
use Rattle.sl_law_meaning.specs.meaning.Tables.{SeatTable}
use Rattle.sl_law_meaning.specs.returns.Election.{Election}
use Rattle.sl_count_texts.specs.Bounds.{is_one_scope, groups, scope_weights, is_of_entry, seats_of, AreScopeBounds, IsBoundsLines}
use Rattle.sl_count_texts.specs.Orders.{step_key, weight_key, is_before, in_order}
use Rattle.sl_count_texts.specs.Short.{short_text}
use Rattle.sl_count_texts.specs.Steps.{step_line, steps_lines, IsStepsText}
use Rattle.sl_count_texts.proofs.KeyOrder.{sorted_in_order}
use Rattle.sl_count_texts.proofs.Keys.{same_step_key, same_weight_key}
use Rattle.sl_count_texts.proofs.OneBounds.{one_bounds_lines}
use Rattle.sl_count_texts.proofs.StableSorts.{same_sorted}

-- ---- what passes a test that at most one element passes

module _ {X : Type 0} (p : X → Bool) where
  kept_behind : (x y : X) (xs : List X) → Contains (filter p xs) y → Contains (filter p (x ∷ xs)) y
  kept_behind x y xs h = elim (cases_Bool (p x)) [
    | inl passes ↦ subst (λ l. Contains l y) (sym (cond-true _ _ _ passes)) (Contains-append_right (x ∷ []) (filter p xs) y h)
    | inr fails ↦ subst (λ l. Contains l y) (sym (cond-false _ _ _ fails)) h
  ]

  kept : (xs : List X) → All (λ y. p y ≡ true → Contains (filter p xs) y) xs
  kept [] = All-nil _
  kept (x ∷ xs) =
      All-cons (λ y. p y ≡ true → Contains (filter p (x ∷ xs)) y) x xs (λ passes. subst (λ l. Contains l x) (sym (cond-true _ _ _ passes)) (0, omega arith, refl))
      (λ i d within passes. kept_behind x _ xs (kept xs i d within passes))

  module _ (xs ys : List X) (moved : IsPermutation xs ys) where
    as_many : length (filter p ys) ≡ length (filter p xs)
    as_many = length-filter p ys ∙ sum_by-IsPermutation _ xs ys moved ∙ sym (length-filter p xs)

    same_one : (a b : X) → filter p xs ≡ a ∷ [] → filter p ys ≡ b ∷ [] → b ≡ a
    same_one a b one other =
        let in_ys : Contains ys b = All-head (Contains ys) b [] (subst (All (Contains ys)) other (All-filter p (Contains ys) ys (All-contains_itself ys))) in
        let passes : p b ≡ true = All-head (λ x. p x ≡ true) b [] (subst (All (λ x. p x ≡ true)) other (filter_passes p ys)) in
        let in_xs : Contains xs b = Contains-permutation ys xs b (IsPermutation-sym xs ys moved) in_ys in
        let is_kept : Contains (a ∷ []) b = subst (λ l. Contains l b) one (All-contains (λ y. p y ≡ true → Contains (filter p xs) y) xs b (kept xs) in_xs passes) in
        let first : is_kept.0 ≡ 0 = omega (arith, is_kept.1) in
        sym is_kept.2 ∙ ap (λ n. get_or (a ∷ []) n b) first

    pub same_kept : length (filter p xs) ≤ 1 → filter p ys ≡ filter p xs
    same_kept few = by (filter p xs) (filter p ys) refl refl
      where
        by : (l m : List X) → filter p xs ≡ l → filter p ys ≡ m → m ≡ l
        by [] [] one other = refl
        by [] (b ∷ m) one other = absurd (omega (arith, as_many, ap length one, ap length other))
        by (a ∷ []) [] one other = absurd (omega (arith, as_many, ap length one, ap length other))
        by (a ∷ []) (b ∷ []) one other = ap (λ x. x ∷ []) (same_one a b one other)
        by (a ∷ []) (b ∷ c ∷ m) one other = absurd (omega (arith, as_many, ap length one, ap length other))
        by (a ∷ c ∷ l) m one other = absurd (omega (arith, few, ap length one))

  module _ (same : X → X → Bool) (alike : (x y : X) → p x ≡ true → p y ≡ true → same x y ≡ true) where
    no_other : (x : X) → p x ≡ true → (xs : List X) → AllByRecursion (λ y. same x y ≡ false) xs → filter p xs ≡ []
    no_other x passes [] apart = refl
    no_other x passes (y ∷ ys) apart = elim (cases_Bool (p y)) [
      | inl too ↦ absurd (true≢false (sym (alike x y passes too) ∙ apart.0))
      | inr fails ↦ cond-false _ _ _ fails ∙ no_other x passes ys apart.1
    ]

    pub at_most_one : (xs : List X) → IsDistinct same xs → length (filter p xs) ≤ 1
    at_most_one [] distinct = omega arith
    at_most_one (x ∷ xs) distinct = elim (cases_Bool (p x)) [
      | inl passes ↦ omega (arith, ap length (cond-true (p x) (x ∷ filter p xs) (filter p xs) passes), ap length (no_other x passes xs (IsDistinct-head same x xs distinct)))
      | inr fails ↦ subst (λ l. length l ≤ 1) (sym (cond-false _ _ _ fails)) (at_most_one xs (IsDistinct-tail same x xs distinct))
    ]

-- ---- records of one key are the same

-- neither of two keys is less than the other
level : (r s : Ordering) → r ≡ ordering_reverse s → (not (is_lt r) && not (is_lt s)) ≡ true → r ≡ Equal
level Less s turned neither = absurd (true≢false (sym neither))
level Equal s turned neither = refl
level Greater Less turned neither = absurd (true≢false (sym neither))
level Greater Equal turned neither = absurd (true≢false (ap is_gt turned))
level Greater Greater turned neither = absurd (true≢false (ap is_gt turned))

module _ {X : Type 0} (key : X → List ℕ) where
  tied_keys : (x y : X) → ties (is_before key) x y ≡ true → key x ≡ key y
  tied_keys x y tie = exact_bytes _ _ (level _ _ (nat_list_cmp_total.antisymm (key x) (key y)) tie)

  in_any_order : (same : X → X → Bool) → ((x y : X) → key x ≡ key y → same x y ≡ true) → (xs ys : List X) → IsPermutation xs ys → IsDistinct same xs → in_order key xs ≡ in_order key ys
  in_any_order same same_key xs ys moved distinct =
      sym (sorted_in_order key xs)
      ∙ same_sorted (is_before key) (ranks_by nat_list_cmp_total key) xs ys (λ z.
      sym (same_kept (ties (is_before key) z) xs ys moved (at_most_one (ties (is_before key) z) same (λ x y tie tie_too. same_key x y (sym (tied_keys z x tie) ∙ tied_keys z y tie_too)) xs distinct)))
      ∙ sorted_in_order key ys

-- ---- texts

-- the bounds are of the weights in order, and of how many seat steps each entry has
same_bounds_lines : (names : List (List ℕ)) (e : Election) (t u : SeatTable) (lines : List ℕ) → SameTable t u → RecordsComeOnce t → IsBoundsLines names t e lines → IsBoundsLines names u e lines
same_bounds_lines names e t u lines same once (found, are, is) =
    let seats : (w : Weight) → seats_of t w ≡ seats_of u w = λ w. sym (sum_by-IsPermutation (λ x. cond (is_of_entry w x) 1 0) t.steps u.steps same.steps) in
    let weights : in_order weight_key t.weights ≡ in_order weight_key u.weights = in_any_order weight_key same_entry same_weight_key t.weights u.weights same.weights once.weights in
    (found, subst (λ ws. AreScopeBounds (seats_of u) (groups is_one_scope ws) found) weights (subst (λ f. AreScopeBounds f (scope_weights t) found) (λ i w. seats w i) are), is)

-- the short text is of the lists and the winners' places alone
same_short_text : (e : Election) (t u : SeatTable) → SameTable t u → short_text t e ≡ short_text u e
same_short_text e t u same =
    ap (λ xs. short_text (record { lists = xs; placed = t.placed; steps = t.steps; weights = t.weights }) e) same.lists
    ∙ ap (λ xs. short_text (record { lists = u.lists; placed = xs; steps = t.steps; weights = t.weights }) e) same.placed

pub same_text : (names : List (List ℕ)) (e : Election) (t u : SeatTable) (x y : List ℕ) → SameTable t u → RecordsComeOnce t → IsStepsText names t e x → IsStepsText names u e y → x ≡ y
same_text names e t u x y same once of_t of_u =
    let bounds : of_t.0 ≡ of_u.0 = one_bounds_lines names u e of_t.0 of_u.0 (same_bounds_lines names e t u of_t.0 same once of_t.1) of_u.1 in
    of_t.2
    ∙ ap (λ xs. flat_map (step_line names e) xs ++ (of_t.0 ++ short_text t e)) (in_any_order step_key same_seat same_step_key t.steps u.steps same.steps once.steps)
    ∙ (λ i. steps_lines names u e ++ (bounds i ++ same_short_text e t u same i))
    ∙ sym of_u.2

pub one_steps_text : (names : List (List ℕ)) (t : SeatTable) (e : Election) (x y : List ℕ) → IsStepsText names t e x → IsStepsText names t e y → x ≡ y
one_steps_text names t e x y is is_too =
    is.2 ∙ ap (λ bounds. steps_lines names t e ++ (bounds ++ short_text t e)) (one_bounds_lines names t e is.0 is_too.0 is.1 is_too.1) ∙ sym is_too.2
