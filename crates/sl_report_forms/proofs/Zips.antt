-- A list beside the first elements of another.
use Rattle.std.proofs.Common.{◌≡◌, ◌≤◌, ℕ, suc, zero, ◌+◌, ◌<◌, List, [], ◌∷◌, ◌++◌, zip, take, length, get_or, refl, sym, ap, ◌∙◌, add-one, arith}

pub zip_nil : {A B : Type 0} (hs : List A) → zip {K = A} {X = B} hs [] ≡ []
zip_nil [] = refl
zip_nil (h ∷ hs) = refl

next : {A B : Type 0} (hs : List A) (xs : List B) (i : ℕ) (h : A) (x : B) → i < length hs → i < length xs → h ≡ get_or hs i h → x ≡ get_or xs i x
    → zip hs (take (suc i) xs) ≡ zip hs (take i xs) ++ (h, x) ∷ []
next [] xs i h x p q e f = absurd (omega arith)
next (g ∷ hs) [] i h x p q e f = absurd (omega arith)
next (g ∷ hs) (y ∷ xs) zero h x p q e f = ap (λ ps. (g, y) ∷ ps) (zip_nil hs) ∙ sym (ap (λ a. (a, x) ∷ []) e ∙ ap (λ b. (g, b) ∷ []) f)
next (g ∷ hs) (y ∷ xs) (suc i) h x p q e f = ap (λ ps. (g, y) ∷ ps) (next hs xs i h x (omega arith) (omega arith) e f)

past : {A B : Type 0} (hs : List A) (xs : List B) (i : ℕ) → length hs ≤ i → zip hs (take (suc i) xs) ≡ zip hs (take i xs)
past [] xs i h = refl
past (g ∷ hs) xs zero h = absurd (omega arith)
past (g ∷ hs) [] (suc i) h = refl
past (g ∷ hs) (y ∷ xs) (suc i) h = ap (λ ps. (g, y) ∷ ps) (past hs xs i (omega arith))

pub zip_next : {A B : Type 0} (hs : List A) (xs : List B) (i : ℕ) (h : A) (x : B) → i < length hs → i < length xs → h ≡ get_or hs i h → x ≡ get_or xs i x
    → zip hs (take (i + 1) xs) ≡ zip hs (take i xs) ++ (h, x) ∷ []
zip_next hs xs i h x p q e f = ap (λ n. zip hs (take n xs)) (add-one i) ∙ next hs xs i h x p q e f

pub zip_past : {A B : Type 0} (hs : List A) (xs : List B) (i : ℕ) → length hs ≤ i → zip hs (take (i + 1) xs) ≡ zip hs (take i xs)
zip_past hs xs i h = ap (λ n. zip hs (take n xs)) (add-one i) ∙ past hs xs i h
