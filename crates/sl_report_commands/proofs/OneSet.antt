-- A list of which each item is changed in its turn.
use Rattle.std.proofs.Common.{List, [], ◌∷◌, ◌++◌, ◌+◌, ◌<◌, ◌≡◌, ℕ, suc, arith, drop, get_or, length, map, slice_set, take, zero}

-- where those before are changed and the others are not, and then one more is
pub one_set : {A B : Type 0} (view : A → B) (f : B → B) (xs : List A) (all : List B) (i : ℕ) (d new : A)
    → i < length xs → map view xs ≡ map f (take i all) ++ drop i all → view new ≡ f (view (get_or xs i d))
    → map view (slice_set xs i new) ≡ map f (take (i + 1) all) ++ drop (i + 1) all
one_set view f [] all i d new lt before is = grind (arith, lt)
one_set view f (x ∷ xs) [] zero d new lt before is = grind (arith, before)
one_set view f (x ∷ xs) [] (suc i) d new lt before is = grind (arith, before)
one_set view f (x ∷ xs) (b ∷ bs) zero d new lt before is = grind (arith, before, is)
one_set view f (x ∷ xs) (b ∷ bs) (suc i) d new lt before is = grind (arith, before, one_set view f xs bs i d new)
