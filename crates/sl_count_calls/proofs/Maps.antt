-- Lists of which the same is said, element by element.
use Rattle.std.proofs.Common.{◌≡◌, ℕ, suc, List, [], ◌∷◌, length, map, Some, slice_get, refl, ap, ◌∙◌, arith}

module _ {X Y Z : Type 0} (f : X → Z) (g : Y → Z) where
  same_front : (x : X) (y : Y) (xs : List X) (ys : List Y) → f x ≡ g y → map f xs ≡ map g ys → map f (x ∷ xs) ≡ map g (y ∷ ys)
  same_front x y xs ys first rest = ap (λ z. z ∷ map f xs) first ∙ ap (λ zs. g y ∷ zs) rest

  -- two lists of one length, of whose elements at each place the same is said
  pub maps_same : (xs : List X) (ys : List Y) → length xs ≡ length ys → ((n : ℕ) (x : X) (y : Y) → slice_get xs n ≡ Some x → slice_get ys n ≡ Some y → f x ≡ g y)
      → map f xs ≡ map g ys
  maps_same [] [] long same = refl
  maps_same [] (y ∷ ys) long same = absurd (omega (arith, long))
  maps_same (x ∷ xs) [] long same = absurd (omega (arith, long))
  maps_same (x ∷ xs) (y ∷ ys) long same =
      same_front x y xs ys (same 0 x y refl refl) (maps_same xs ys (omega (arith, long)) (λ n u v at there. same (suc n) u v at there))

-- what is said of what is said of a list
pub map_twice : {X Y Z : Type 0} (f : X → Y) (g : Y → Z) (xs : List X) → map g (map f xs) ≡ map (λ x. g (f x)) xs
map_twice f g [] = refl
map_twice f g (x ∷ xs) = ap (λ zs. g (f x) ∷ zs) (map_twice f g xs)
