-- The valid votes of a party are what the records of its lists tell.
use Rattle.std.proofs.Common.{◌≡◌, ◌≢◌, ◌<◌, ◌+◌, ℕ, suc, Bool, true, false, cond, List, [], ◌∷◌, ◌++◌, length, get_or, set, map, Some, None, refl, sym, ap, ◌∙◌, arith}
use Rattle.std.specs.List.{All, sum_by, range_with_len}
use Rattle.std.specs.Str.{bytes_eq}
use Rattle.std.proofs.lemmas.Bool.{and_left, and_right}
use Rattle.std.proofs.lemmas.List.{get_or-map, length-map}
use Rattle.std.proofs.lemmas.List.Elements.{All-pop, filter-append}
use Rattle.std.proofs.lemmas.List.Sums.{sum_by-cons, sum_by-append, sum_by-set, sum-map}
use Rattle.std.proofs.lemmas.Slice.Eq.{bytes_eq-Decides}
use Rattle.sl_base_quotients.specs.Names.{IsNameList}
use Rattle.sl_base_quotients.specs.declared.limits.TheConstants.{MAX_LANDS, MAX_PARTIES}
use Rattle.sl_law_meaning.specs.returns.Votes.{valid_in}
use Rattle.sl_returns.specs.declared.schema.TheConstants.{LAND, PARTY, A}
use Rattle.sl_returns.specs.Cells.{Record, cell, number_of, place_in}
use Rattle.sl_returns.specs.Records.{list_from, rows_from, of_party}
use Rattle.sl_returns.proofs.NamePlaces.{at_place, elsewhere}
use Rattle.sl_returns.proofs.Rows.{NamesKnown, map_agree, map_at, told_other, told_here, list_at_places}

-- ---- sums

-- two functions that agree on a list but at one place
sum_at : {X : Type 0} (f g : X → ℕ) (xs : List X) (i : ℕ) (d : X) → i < length xs → ((k : ℕ) → k < length xs → k ≢ i → g (get_or xs k d) ≡ f (get_or xs k d))
    → sum_by g xs + f (get_or xs i d) ≡ sum_by f xs + g (get_or xs i d)
sum_at f g xs i d l h =
    let value = g (get_or xs i d) in
    let changed : sum_by g xs ≡ sum_by (λ n. n) (set (map f xs) i value) = sym (sum-map g xs) ∙ ap (sum_by (λ n. n)) (map_at f g xs i d l h) in
    let at : get_or (map f xs) i 0 ≡ f (get_or xs i d) = get_or-map f xs i d 0 l in
    let old : sum_by (λ n. n) (map f xs) ≡ sum_by f xs = sum-map f xs in
    omega (arith, changed, at, old, sum_by-set (λ n. n) (map f xs) i value 0 (omega (arith, length-map xs f)))

-- numbers of the elements, by their places
sum_by_places : {X : Type 0} (f : ℕ → ℕ) (h : X → ℕ) (xs : List X) (a : ℕ) (d : X) → ((k : ℕ) → k < length xs → f (a + k) ≡ h (get_or xs k d))
    → sum_by f (range_with_len a (length xs)) ≡ sum_by h xs
sum_by_places f h [] a d same = refl
sum_by_places f h (x ∷ xs) a d same =
    let here : f a ≡ h x = ap f (omega arith) ∙ same 0 (omega arith) in
    let rest = sum_by_places f h xs (a + 1) d (λ k l. ap f (omega arith) ∙ same (suc k) (omega (arith, l))) in
    omega (arith, here, rest, sum_by-cons f a (range_with_len (a + 1) (length xs)), sum_by-cons h x xs)

-- ---- records of lists

-- what a record tells of the valid votes of its list
abbrev pub told : Record → ℕ
told r = number_of (cell r A)

-- the valid votes of a party's list in a Land
abbrev pub valid_from : List Record → List ℕ → List ℕ → ℕ
valid_from lists party land = valid_in (list_from lists land party)

-- in each election whose names these records use, the valid votes of a party's lists are what its records tell
pub record AreVotesTold (lists : List Record) : Type 0 where
  pub sum : (lands parties : List (List ℕ)) (party : List ℕ) → IsNameList (record { limit = MAX_LANDS; names = lands }) → IsNameList (record { limit = MAX_PARTIES; names = parties })
      → All (NamesKnown lands parties) lists → sum_by (valid_from lists party) lands ≡ sum_by told (of_party party lists)

no_votes : (party : List ℕ) (lands : List (List ℕ)) → sum_by (valid_from [] party) lands ≡ 0
no_votes party [] = refl
no_votes party (x ∷ lands) =
    let none : valid_from [] party x ≡ 0 = refl in
    omega (arith, none, sum_by-cons (valid_from [] party) x lands, no_votes party lands)

pub no_lists_told : AreVotesTold []
no_lists_told = record { sum = λ lands parties party lands_once parties_once known. no_votes party lands }

module _ (lists : List Record) (r : Record) (lands parties : List (List ℕ)) (party : List ℕ)
    (lands_once : IsNameList (record { limit = MAX_LANDS; names = lands })) (parties_once : IsNameList (record { limit = MAX_PARTIES; names = parties }))
    (named : NamesKnown lands parties r) (new : list_from lists (cell r LAND) (cell r PARTY) ≡ None) where
  -- a record of another party changes nothing
  votes_other : bytes_eq (cell r PARTY) party ≡ false → sum_by (valid_from (lists ++ r ∷ []) party) lands ≡ sum_by (valid_from lists party) lands
  votes_other other =
      let same = map_agree (valid_from (lists ++ r ∷ []) party) (valid_from lists party) lands
      (λ k d l. ap valid_in (told_other lists lands parties r named lands_once parties_once (get_or lands k d) party (and_right (bytes_eq (cell r LAND) (get_or lands k d)) (bytes_eq (cell r PARTY) party) other))) in
      sym (sum-map (valid_from (lists ++ r ∷ []) party) lands) ∙ ap (sum_by (λ n. n)) same ∙ sum-map (valid_from lists party) lands

  -- a record of the party adds what it tells
  votes_more : cell r PARTY ≡ party → sum_by (valid_from (lists ++ r ∷ []) party) lands ≡ sum_by (valid_from lists party) lands + told r
  votes_more same =
      let i = place_in lands (cell r LAND) in
      let old = valid_from lists party in
      let now = valid_from (lists ++ r ∷ []) party in
      let land : get_or lands i [] ≡ cell r LAND = at_place lands (cell r LAND) named.land in
      let before : old (get_or lands i []) ≡ 0 = ap old land ∙ ap (λ p. valid_from lists p (cell r LAND)) (sym same) ∙ ap valid_in new in
      let after : now (get_or lands i []) ≡ told r =
      ap now land ∙ ap (λ p. valid_from (lists ++ r ∷ []) p (cell r LAND)) (sym same) ∙ ap valid_in (told_here lists lands parties r named lands_once parties_once new) in
      let others = sum_at old now lands i [] named.land (λ k l ne. ap valid_in (told_other lists lands parties r named lands_once parties_once (get_or lands k []) party
      (and_left (bytes_eq (cell r LAND) (get_or lands k [])) (bytes_eq (cell r PARTY) party) (elsewhere MAX_LANDS lands (cell r LAND) k lands_once named.land l ne)))) in
      omega (arith, before, after, others)

  votes_push : sum_by (valid_from lists party) lands ≡ sum_by told (of_party party lists)
      → sum_by (valid_from (lists ++ r ∷ []) party) lands ≡ sum_by told (of_party party (lists ++ r ∷ []))
  votes_push before = go (bytes_eq (cell r PARTY) party) refl ∙ sym (ap (sum_by told) (filter-append (λ x. bytes_eq (cell x PARTY) party) lists (r ∷ [])))
    where
      go : (b : Bool) → bytes_eq (cell r PARTY) party ≡ b → sum_by (valid_from (lists ++ r ∷ []) party) lands ≡ sum_by told (of_party party lists ++ cond b (r ∷ []) [])
      go true e =
          votes_more ((bytes_eq-Decides (cell r PARTY) party).0 e) ∙ omega (arith, before, sum_by-append told (of_party party lists) (r ∷ []))
      go false e = votes_other e ∙ before ∙ omega (arith, sum_by-append told (of_party party lists) [])

-- a record of a list that no other tells of
pub list_told : (lists : List Record) (r : Record) → AreVotesTold lists → list_from lists (cell r LAND) (cell r PARTY) ≡ None → AreVotesTold (lists ++ r ∷ [])
list_told lists r are new = record {
  sum = λ lands parties party lands_once parties_once known.
      let (before, named) = All-pop (NamesKnown lands parties) (lists ++ r ∷ []) lists (Some r) refl known in
      votes_push lists r lands parties party lands_once parties_once named new (are.sum lands parties party lands_once parties_once before);
}

-- ---- of an election

-- the valid votes of a party of an election with these rows
pub votes_of_rows : (lists : List Record) (lands parties : List (List ℕ)) (party : ℕ) → party < length parties
    → sum_by (λ land. valid_in (get_or (get_or (rows_from lists lands parties) land []) party None)) (range_with_len 0 (length lands))
    ≡ sum_by (valid_from lists (get_or parties party [])) lands
votes_of_rows lists lands parties party in_parties =
    let at : ℕ → ℕ = λ land. valid_in (get_or (get_or (rows_from lists lands parties) land []) party None) in
    sum_by_places at (valid_from lists (get_or parties party [])) lands 0 []
    (λ k l. let same : 0 + k ≡ k = omega arith in ap at same ∙ ap valid_in (list_at_places lists lands parties k party l in_parties))
