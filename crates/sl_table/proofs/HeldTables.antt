-- The lists of the table that a run holds are of the election's Länder and parties.
use Rattle.std.proofs.Common.{◌≡◌, ℕ, ◌+◌, ◌<◌, List, [], ◌∷◌, map, get_or, arith}
use Rattle.std.specs.List.{All, flat_map, filter, range_with_len}
use Rattle.std.proofs.lemmas.List.Elements.{All-nil, All-head, All-tail, All-append, All-map, All-filter, All-from_get_or}
use Rattle.std.proofs.lemmas.List.FromFn.{length-range_with_len, get_or-range_with_len}
use Rattle.sl_law_meaning.specs.returns.Election.{Election, lands_of, parties_of, has_list}
use Rattle.sl_law_meaning.specs.returns.Facts.{lands, parties, each_list}
use Rattle.sl_code_semantics.specs.Memories.{Held}
use Rattle.sl_code_semantics.specs.Tables.{held_line}
use Rattle.sl_count_texts.specs.inner.Fits.{IsOf}

-- what holds of each element of each piece
All-flat_map : {X Y : Type 0} (P : Y → Type 0) (f : X → List Y) (xs : List X) → All (λ x. All P (f x)) xs → All P (flat_map f xs)
All-flat_map P f [] h = All-nil P
All-flat_map P f (x ∷ xs) h =
    All-append P (f x) (flat_map f xs) (All-head (λ y. All P (f y)) x xs h) (All-flat_map P f xs (All-tail (λ y. All P (f y)) x xs h))

-- each number of a range from 0 is below its end
All-below : (n : ℕ) → All (λ i. i < n) (range_with_len 0 n)
All-below n =
    All-from_get_or (λ i. i < n) (range_with_len 0 n) 0
    (λ i within.
    let i_fits : i < n = omega (arith, length-range_with_len 0 n) in
    let here : get_or (range_with_len 0 n) i 0 ≡ 0 + i = get_or-range_with_len 0 n i 0 i_fits in
    omega (arith, here))

pub held_lists_fit : (e : Election) (h : Held) → All (IsOf e) (each_list e (held_line e h))
held_lists_fit e h = All-flat_map (IsOf e) (λ land. map (held_line e h land) (filter (has_list e land) (parties e))) (lands e) (λ i d within.
    let land : ℕ = get_or (lands e) i d in
    let land_fits : land < lands_of e = All-below (lands_of e) i d within in
    let in_land : All (λ party. IsOf e (held_line e h land party)) (parties e) = λ k p below. (land_fits, All-below (parties_of e) k p below) in
    All-map (IsOf e) (held_line e h land) (filter (has_list e land) (parties e))
    (All-filter (has_list e land) (λ party. IsOf e (held_line e h land party)) (parties e) in_land))
