-- Fronts of equal lists.
use Rattle.std.proofs.Common.{◌≡◌, List, [], ◌∷◌, ◌++◌, length, refl, arith}

pub head : {X : Type 0} (x y : X) (xs ys : List X) → x ∷ xs ≡ y ∷ ys → x ≡ y
head x y xs ys e = cc

pub tail : {X : Type 0} (x y : X) (xs ys : List X) → x ∷ xs ≡ y ∷ ys → xs ≡ ys
tail x y xs ys e = cc

pub no_front : {X : Type 0} (x : X) (xs : List X) → x ∷ xs ≡ [] → ⊥
no_front x xs e = cc

-- after fronts of one length
pub back_same : {X : Type 0} (xs ys r s : List X) → length xs ≡ length ys → xs ++ r ≡ ys ++ s → r ≡ s
back_same [] [] r s long e = e
back_same [] (y ∷ ys) r s long e = absurd (omega (arith, long))
back_same (x ∷ xs) [] r s long e = absurd (omega (arith, long))
back_same (x ∷ xs) (y ∷ ys) r s long e = back_same xs ys r s (omega (arith, long)) (tail _ _ _ _ e)

pub front_same : {X : Type 0} (xs ys r s : List X) → length xs ≡ length ys → xs ++ r ≡ ys ++ s → xs ≡ ys
front_same [] [] r s long e = refl
front_same [] (y ∷ ys) r s long e = absurd (omega (arith, long))
front_same (x ∷ xs) [] r s long e = absurd (omega (arith, long))
front_same (x ∷ xs) (y ∷ ys) r s long e =
    let first : x ≡ y = head _ _ _ _ e in
    let more : xs ≡ ys = front_same xs ys r s (omega (arith, long)) (tail _ _ _ _ e) in
    cc
