-- Columns of pairs of Land and party: the place of a pair.
use Rattle.std.proofs.Common.{◌≡◌, ℕ, ◌+◌, ◌*◌, ◌<◌, ◌≤◌, List, [], ◌∷◌, length, take, get_or, sym, ap, ◌∙◌, arith}
use Rattle.std.specs.List.{flat_map, range_with_len}
use Rattle.std.proofs.lemmas.List.{length-append, map-id}
use Rattle.std.proofs.lemmas.List.Concat.{get_or-flat_map}
use Rattle.std.proofs.lemmas.List.FromFn.{length-range_with_len, length-map-range_with_len, get_or-range_with_len, get_or-map-range_with_len, take-map-range_with_len}
use Rattle.sl_law_meaning.specs.returns.Election.{Election, lands_of, parties_of}
use Rattle.sl_law_meaning.specs.returns.Facts.{lands, by_party, by_list}

length_pieces : {X A : Type 0} (f : X → List A) (n : ℕ) → ((x : X) → length (f x) ≡ n) → (xs : List X) → length (flat_map f xs) ≡ length xs * n
length_pieces f n each [] = omega arith
length_pieces f n each (x ∷ xs) =
    let rest : length (flat_map f xs) ≡ length xs * n = length_pieces f n each xs in
    length-append (f x) (flat_map f xs) ∙ omega (arith, each x, rest)

take_range : (k n : ℕ) → k ≤ n → take k (range_with_len 0 n) ≡ range_with_len 0 k
take_range k n within = ap (take k) (sym (map-id (range_with_len 0 n))) ∙ take-map-range_with_len (λ x. x) 0 n k within ∙ map-id (range_with_len 0 k)

pub length_by_list : (e : Election) (f : ℕ → ℕ → ℕ) → length (by_list e f) ≡ lands_of e * parties_of e
length_by_list e f =
    length_pieces (λ land. by_party e (f land)) (parties_of e) (λ land. length-map-range_with_len (f land) 0 (parties_of e)) (lands e) ∙ ap (λ n. n * parties_of e) (length-range_with_len 0 (lands_of e))

-- the number of a pair
pub by_list_at : (e : Election) (f : ℕ → ℕ → ℕ) (land party : ℕ) → land < lands_of e → party < parties_of e → get_or (by_list e f) (land * parties_of e + party) 0 ≡ f land party
by_list_at e f land party in_lands in_parties =
    let row : ℕ → List ℕ = λ a. by_party e (f a) in
    let wide : (a : ℕ) → length (row a) ≡ parties_of e = λ a. length-map-range_with_len (f a) 0 (parties_of e) in
    let before : length (flat_map row (take land (lands e))) ≡ land * parties_of e =
    ap (λ xs. length (flat_map row xs)) (take_range land (lands_of e) (omega arith))
    ∙ length_pieces row (parties_of e) wide (range_with_len 0 land)
    ∙ ap (λ n. n * parties_of e) (length-range_with_len 0 land) in
    let this : get_or (lands e) land 0 ≡ land = get_or-range_with_len 0 (lands_of e) land 0 in_lands ∙ omega arith in
    let many : land < length (lands e) = omega (arith, length-range_with_len 0 (lands_of e)) in
    let inside : party < length (row (get_or (lands e) land 0)) = omega (arith, wide (get_or (lands e) land 0)) in
    ap (λ n. get_or (by_list e f) (n + party) 0) (sym before)
    ∙ get_or-flat_map row (lands e) land party 0 0 many inside
    ∙ ap (λ a. get_or (row a) party 0) this
    ∙ get_or-map-range_with_len (f land) 0 (parties_of e) party party 0 in_parties (omega arith)
