-- Records in order are those that a stable sort by their keys gives.
use Rattle.std.proofs.Common.{◌≡◌, ℕ, cond, List, [], ◌∷◌, map, inl, inr, refl, sym, ap, subst, ◌∙◌, nat_cmp}
use Rattle.std.specs.Borrow.{Bor}
use Rattle.std.specs.Cmp.Lexicographic.{slice_cmp}
use Rattle.std.specs.Fn.{Called, Mut}
use Rattle.std.specs.List.{All}
use Rattle.std.specs.List.Sorted.{IsSortedByKeyClosure, IsStableByKeyClosure}
use Rattle.std.proofs.lemmas.Bool.{cases_Bool, cond-true, cond-false}
use Rattle.std.proofs.lemmas.Cmp.{nat_list_cmp_total}
use Rattle.std.proofs.lemmas.List.Elements.{All-cons, All-head, All-tail}
use Rattle.std.proofs.lemmas.List.Sorted.{answers_always, ranks_by}
use Rattle.sl_count_texts.specs.Orders.{is_before, with_one, in_order}
use Rattle.sl_count_texts.proofs.StableSorts.{inserted, sorted, stable_sort, map-sorted}

module _ {A : Type 0} (key : A → List ℕ) where
  one_inserted : (x : A) (ys : List A) → inserted (is_before key) x ys ≡ with_one key x ys
  one_inserted x [] = refl
  one_inserted x (y ∷ ys) = ap (λ zs. cond (is_before key y x) (y ∷ zs) (x ∷ y ∷ ys)) (one_inserted x ys)

  pub sorted_in_order : (xs : List A) → sorted (is_before key) xs ≡ in_order key xs
  sorted_in_order [] = refl
  sorted_in_order (x ∷ xs) = one_inserted x (sorted (is_before key) xs) ∙ ap (with_one key x) (sorted_in_order xs)

  -- references, sorted stably by what a closure gives of each, where that is the key
  pub references_in_order : {F : Type 0} {g : Mut F (Bor (Bor A) × Unit {0}) (List ℕ)} {f : F} (xs : List A) (before after : List (Bor A))
      → map (λ s. s.now) before ≡ xs
      → IsSortedByKeyClosure g (slice_cmp nat_cmp) f after → IsStableByKeyClosure g (slice_cmp nat_cmp) f before after
      → ((f : F) (a : Bor (Bor A) × Unit {0}) (k : List ℕ) (f' : F) → Called g f a k f' → k ≡ key a.0.now.now)
      → map (λ s. s.now) after ≡ in_order key xs
  references_in_order {g = g} {f = f} xs before after of_xs up stable keys =
      let computes = answers_always g (λ a k. k ≡ key a.0.now.now) f keys in
      ap (map (λ s. s.now)) (stable_sort (λ a b. is_before key a.now b.now) (ranks_by nat_list_cmp_total (λ s. key s.now)) before after (up (λ s. key s.now) computes) (stable (λ s. key s.now) computes))
      ∙ map-sorted (λ s. s.now) (is_before key) before ∙ ap (sorted (is_before key)) of_xs ∙ sorted_in_order xs

  -- what holds of each holds of each in order
  module _ (P : A → Type 0) where
    All-with_one : (x : A) (ys : List A) → P x → All P ys → All P (with_one key x ys)
    All-with_one x [] one all = All-cons P x [] one all
    All-with_one x (y ∷ ys) one all = elim (cases_Bool (is_before key y x)) [
      | inl before ↦ subst (All P) (sym (cond-true _ _ _ before)) (All-cons P y (with_one key x ys) (All-head P y ys all) (All-with_one x ys one (All-tail P y ys all)))
      | inr no_before ↦ subst (All P) (sym (cond-false _ _ _ no_before)) (All-cons P x (y ∷ ys) one all)
    ]

    pub All-in_order : (xs : List A) → All P xs → All P (in_order key xs)
    All-in_order [] all = all
    All-in_order (x ∷ xs) all = All-with_one x (in_order key xs) (All-head P x xs all) (All-in_order xs (All-tail P x xs all))
