-- Two lists item by item, and an item of a list.
use Rattle.std.proofs.Common.{All, Any, Contains, List, [], ap, arith, map, refl, subst, suc, sym, zero, ◌++◌, ◌∷◌, ◌≡◌}
use Rattle.std.proofs.lemmas.List.Elements.{Contains-append_left, Contains-append_right}
use Rattle.std.specs.List.{AllZip}

pub zip_append : {X Y : Type 0} (R : X → Y → Type 0) (xs xs' : List X) (ys ys' : List Y) → AllZip R xs ys → AllZip R xs' ys' → AllZip R (xs ++ xs') (ys ++ ys')
zip_append R [] xs' [] ys' one other = other
zip_append R [] xs' (y ∷ ys) ys' one other = absurd one
zip_append R (x ∷ xs) xs' [] ys' one other = absurd one
zip_append R (x ∷ xs) xs' (y ∷ ys) ys' one other = (one.0, zip_append R xs xs' ys ys' one.1 other)

-- what is beside two lists in sequence is in two parts
pub zip_parts : {X Y : Type 0} (R : X → Y → Type 0) (xs xs' : List X) (ys : List Y) → AllZip R (xs ++ xs') ys
    → (one other : List Y) × (ys ≡ one ++ other) × AllZip R xs one × AllZip R xs' other
zip_parts R [] xs' ys all = ([], ys, refl, tt, all)
zip_parts R (x ∷ xs) xs' [] all = absurd all
zip_parts R (x ∷ xs) xs' (y ∷ ys) all =
    let rest = zip_parts R xs xs' ys all.1 in
    (y ∷ rest.0, rest.1, ap (λ zs. y ∷ zs) rest.2, (all.0, rest.3), rest.4)

-- by what is between them
pub zip_through : {X Y Z : Type 0} (R : X → Y → Type 0) (S : Y → Z → Type 0) (T : X → Z → Type 0) → ((x : X) (y : Y) (z : Z) → R x y → S y z → T x z) → (xs : List X) (ys : List Y) (zs : List Z)
    → AllZip R xs ys → AllZip S ys zs → AllZip T xs zs
zip_through R S T by [] [] [] one other = tt
zip_through R S T by [] [] (z ∷ zs) one other = absurd other
zip_through R S T by [] (y ∷ ys) zs one other = absurd one
zip_through R S T by (x ∷ xs) [] zs one other = absurd one
zip_through R S T by (x ∷ xs) (y ∷ ys) [] one other = absurd other
zip_through R S T by (x ∷ xs) (y ∷ ys) (z ∷ zs) one other = (by x y z one.0 other.0, zip_through R S T by xs ys zs one.1 other.1)

-- of what is read of the items, of which something holds
pub zip_map : {X Y Z : Type 0} (P : X → Type 0) (R : X → Z → Type 0) (S : Y → Z → Type 0) (f : X → Y) → ((x : X) (z : Z) → P x → R x z → S (f x) z) → (xs : List X) (zs : List Z) → All P xs
    → AllZip R xs zs → AllZip S (map f xs) zs
zip_map P R S f by [] [] all one = tt
zip_map P R S f by [] (z ∷ zs) all one = absurd one
zip_map P R S f by (x ∷ xs) [] all one = absurd one
zip_map P R S f by (x ∷ xs) (z ∷ zs) all one =
    (by x z (all 0 x (omega arith)) one.0, zip_map P R S f by xs zs (λ k d lt. all (suc k) d (omega (arith, lt))) one.1)

-- an item that is read of one that there is
pub any_map : {X Y : Type 0} (P : Y → Type 0) (f : X → Y) (xs : List X) (x : X) → Contains xs x → P (f x) → Any P (map f xs)
any_map P f [] x (k, lt, at) is = let no : ⊥ = omega (arith, lt) in absurd no
any_map P f (y ∷ xs) x (zero, lt, at) is = (0, f y, omega arith, refl, subst (λ z. P (f z)) (sym at) is)
any_map P f (y ∷ xs) x (suc k, lt, at) is = let rest = any_map P f xs x (k, omega (arith, lt), at) is in (suc rest.0, rest.1, omega (arith, rest.2), rest.3, rest.4)

pub any_left : {X : Type 0} (P : X → Type 0) (xs ys : List X) → Any P xs → Any P (xs ++ ys)
any_left P xs ys (k, x, lt, at, is) = let c = Contains-append_left xs ys x (k, lt, at) in (c.0, x, c.1, c.2, is)

pub any_right : {X : Type 0} (P : X → Type 0) (xs ys : List X) → Any P ys → Any P (xs ++ ys)
any_right P xs ys (k, x, lt, at, is) = let c = Contains-append_right xs ys x (k, lt, at) in (c.0, x, c.1, c.2, is)

-- all of several and one more
pub all_before : {X : Type 0} (P : X → Type 0) (xs : List X) (x : X) → All P (xs ++ x ∷ []) → All P xs
all_before P [] x all k d lt = let no : ⊥ = omega (arith, lt) in absurd no
all_before P (y ∷ xs) x all zero d lt = all 0 d (omega arith)
all_before P (y ∷ xs) x all (suc k) d lt = all_before P xs x (λ j e l. all (suc j) e (omega (arith, l))) k d (omega (arith, lt))

pub all_last : {X : Type 0} (P : X → Type 0) (xs : List X) (x : X) → All P (xs ++ x ∷ []) → P x
all_last P [] x all = all 0 x (omega arith)
all_last P (y ∷ xs) x all = all_last P xs x (λ k d lt. all (suc k) d (omega (arith, lt)))

-- beside an item of the second list is one of the first
pub zip_of : {X Y : Type 0} (R : X → Y → Type 0) (xs : List X) (ys : List Y) (y : Y) → AllZip R xs ys → Contains ys y → (x : X) × Contains xs x × R x y
zip_of R [] [] y all (k, lt, at) = let no : ⊥ = omega (arith, lt) in absurd no
zip_of R [] (z ∷ ys) y all there = absurd all
zip_of R (x ∷ xs) [] y all there = absurd all
zip_of R (x ∷ xs) (z ∷ ys) y all (zero, lt, at) = (x, (0, omega arith, refl), subst (R x) at all.0)
zip_of R (x ∷ xs) (z ∷ ys) y all (suc k, lt, at) =
    let rest = zip_of R xs ys y all.1 (k, omega (arith, lt), at) in (rest.0, (suc rest.1.0, omega (arith, rest.1.1), rest.1.2), rest.2)
