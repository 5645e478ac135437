-- One more element of a list that a loop builds.
use Rattle.std.proofs.Common.{◌≡◌, ℕ, ◌+◌, ◌<◌, Bool, List, [], ◌∷◌, ◌++◌, length, get_or, take, filter, map, sym, ap, subst, ◌∙◌}
use Rattle.std.proofs.Math.ListN.{get_or-append}
use Rattle.std.proofs.lemmas.List.{get_or_push, length_push, map_more}
use Rattle.std.proofs.lemmas.List.Elements.{filter-append}
use borrow.Author.Count.{below_more}

pub mapped_next : {X Y : Type 0} (xs : List X) (f : X → Y) (i : ℕ) (d : X) (ys zs : List Y) (y : Y) → i < length xs → ys ≡ map f (take i xs) → zs ≡ ys ++ y ∷ [] → y ≡ f (get_or xs i d) → zs ≡ map f (take (i + 1) xs)
mapped_next xs f i d ys zs y less before grown is = grown ∙ ap (λ v. ys ++ v ∷ []) is ∙ ap (λ b. b ++ f (get_or xs i d) ∷ []) before ∙ sym (map_more f xs i d less)

pub kept_next : {X Y : Type 0} (xs : List X) (f : X → Y) (p : Y → Bool) (i : ℕ) (d : X) (ys zs : List Y) (y : Y) → i < length xs → ys ≡ filter p (map f (take i xs)) → zs ≡ ys ++ filter p (y ∷ []) → y ≡ f (get_or xs i d) →
    zs ≡ filter p (map f (take (i + 1) xs))
kept_next xs f p i d ys zs y less before grown is =
    grown ∙ ap (λ v. ys ++ filter p (v ∷ [])) is ∙ ap (λ b. b ++ filter p (f (get_or xs i d) ∷ [])) before
    ∙ sym (filter-append p (map f (take i xs)) (f (get_or xs i d) ∷ [])) ∙ ap (filter p) (sym (map_more f xs i d less))

-- what holds of each element by its number, where the list is as long as the loop has come
pub each_next : {X : Type 0} (P : ℕ → X → Type 0) (xs ys : List X) (n : ℕ) (d x : X) → length xs ≡ n → ys ≡ xs ++ x ∷ [] → P n x → ((k : ℕ) → k < n → P k (get_or xs k d)) → (k : ℕ) → k < n + 1 → P k (get_or ys k d)
each_next P xs ys n d x long grown here before =
    subst (λ zs. (k : ℕ) → k < n + 1 → P k (get_or zs k d)) (sym grown)
    (below_more (λ k. P k (get_or (xs ++ x ∷ []) k d)) n (λ k less. subst (P k) (sym (get_or-append xs (x ∷ []) d k (rw long less))) (before k less)) (subst (P n) (sym (get_or_push xs x d n long)) here))

pub long_next : {X : Type 0} (xs ys : List X) (n : ℕ) (x : X) → length xs ≡ n → ys ≡ xs ++ x ∷ [] → length ys ≡ n + 1
long_next xs ys n x long grown = ap length grown ∙ length_push xs x ∙ ap (λ m. m + 1) long
