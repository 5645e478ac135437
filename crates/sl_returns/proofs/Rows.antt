-- Rows of cells, and what a record of a list changes in them.
use Rattle.std.proofs.Common.{◌≡◌, ◌≢◌, ◌<◌, ◌≤◌, ◌+◌, ◌-◌, ℕ, zero, suc, Bool, true, false, List, [], ◌∷◌, ◌++◌, length, get_or, set, map, replicate, Option, Some, None, refl, sym, ap, ◌∙◌, arith, append_assoc}
use Rattle.std.specs.List.{All, find}
use Rattle.std.specs.Option.{option_map, option_or}
use Rattle.std.specs.Str.{bytes_eq}
use Rattle.std.proofs.lemmas.Bool.{and_from, and_left, and_right}
use Rattle.std.proofs.lemmas.Option.{none-some}
use Rattle.std.proofs.lemmas.List.{map_push, length-map, length_push, get_or-map, get_or_append_left, set-append_left, replicate-append-replicate}
use Rattle.std.proofs.lemmas.List.Elements.{All-head, All-tail, All-from_get_or, All-weaker}
use Rattle.std.proofs.lemmas.List.Folds.{find-append}
use Rattle.std.proofs.lemmas.Slice.Eq.{bytes_eq-Decides}
use Rattle.sl_base_quotients.specs.Names.{IsNameList}
use Rattle.sl_base_quotients.specs.declared.limits.TheConstants.{MAX_LANDS, MAX_PARTIES}
use Rattle.sl_returns.specs.declared.schema.TheConstants.{LAND, PARTY}
use Rattle.sl_returns.specs.Cells.{Record, cell, number_in, place_in}
use Rattle.sl_returns.specs.Records.{votes_of, names_both, list_from, row_from, rows_from}
use Rattle.sl_returns.proofs.NamePlaces.{Known, new_differs, at_place, elsewhere}

-- ---- maps

module _ {X Y : Type 0} where
  -- two functions that agree on a list
  pub map_agree : (f g : X → Y) (xs : List X) → All (λ x. f x ≡ g x) xs → map f xs ≡ map g xs
  map_agree f g [] h = refl
  map_agree f g (x ∷ xs) h =
      let here : f x ≡ g x = All-head (λ x. f x ≡ g x) x xs h in
      let rest = map_agree f g xs (All-tail (λ x. f x ≡ g x) x xs h) in
      rw (here, rest) refl

  -- a function that is the same everywhere
  pub map_same : (f : X → Y) (y : Y) (xs : List X) → All (λ x. f x ≡ y) xs → map f xs ≡ replicate (length xs) y
  map_same f y [] h = refl
  map_same f y (x ∷ xs) h =
      let here : f x ≡ y = All-head (λ x. f x ≡ y) x xs h in
      let rest = map_same f y xs (All-tail (λ x. f x ≡ y) x xs h) in
      rw (here, rest) refl

  -- two functions that agree on a list but at one place
  pub map_at : (f g : X → Y) (xs : List X) (i : ℕ) (d : X) → i < length xs → ((k : ℕ) → k < length xs → k ≢ i → g (get_or xs k d) ≡ f (get_or xs k d)) → map g xs ≡ set (map f xs) i (g (get_or xs i d))
  map_at f g [] i d l h = absurd (omega arith)
  map_at f g (x ∷ xs) zero d l h =
      let others = All-from_get_or (λ y. g y ≡ f y) xs d (λ k within. h (suc k) (omega arith) (λ e. omega (arith, e))) in
      ap (λ ys. g x ∷ ys) (map_agree g f xs others)
  map_at f g (x ∷ xs) (suc i) d l h =
      let here : g x ≡ f x = h 0 (omega arith) (λ e. omega (arith, e)) in
      let rest = map_at f g xs i d (omega arith) (λ k within ne. h (suc k) (omega arith) (λ e. ne (omega (arith, e)))) in
      rw (here, rest) refl

-- a list filled up to n elements
padded : {X : Type 0} (xs : List X) (y : X) (n m : ℕ) → m < n → (xs ++ y ∷ []) ++ replicate (n - (m + 1)) y ≡ xs ++ replicate (n - m) y
padded xs y n m l =
    let more : suc (n - (m + 1)) ≡ n - m = omega arith in
    append_assoc xs (y ∷ []) (replicate (n - (m + 1)) y) ∙ ap (λ k. xs ++ replicate k y) more

-- ---- searches

-- what is found among records does not change where one more is not it
pub find_push_other : (p : Record → Bool) (rs : List Record) (r : Record) → p r ≡ false → find p (rs ++ r ∷ []) ≡ find p rs
find_push_other p rs r h = find-append p rs (r ∷ []) ∙ rw h (no_more (find p rs))
  where
    no_more : (o : Option Record) → option_or o None ≡ o
    no_more None = refl
    no_more (Some x) = refl

pub find_push_first : (p : Record → Bool) (rs : List Record) (r : Record) → find p rs ≡ None → p r ≡ true → find p (rs ++ r ∷ []) ≡ Some r
find_push_first p rs r none h = find-append p rs (r ∷ []) ∙ rw (none, h) refl

find_none : (p : Record → Bool) (rs : List Record) → All (λ r. p r ≡ false) rs → find p rs ≡ None
find_none p [] h = refl
find_none p (r ∷ rs) h =
    let here : p r ≡ false = All-head (λ r. p r ≡ false) r rs h in
    rw here (find_none p rs (All-tail (λ r. p r ≡ false) r rs h))

-- ---- lists

-- what every record of a list names: a Land and a party of the election
pub record NamesKnown (lands parties : List (List ℕ)) (r : Record) : Type 0 where
  pub land : Known lands (cell r LAND)
  pub party : Known parties (cell r PARTY)

module _ (lists : List Record) (lands parties : List (List ℕ)) (names : All (NamesKnown lands parties) lists) where
  -- a new Land has no list, nor has a new party
  no_list_in : (land party : List ℕ) → number_in lands land ≡ None → list_from lists land party ≡ None
  no_list_in land party new =
      let others = All-weaker (NamesKnown lands parties) (λ r. names_both land party r ≡ false) (λ r is. and_left (bytes_eq (cell r LAND) land) (bytes_eq (cell r PARTY) party) (new_differs lands (cell r LAND) land is.land new)) lists names in
      ap (option_map votes_of) (find_none (names_both land party) lists others)

  no_list_of : (land party : List ℕ) → number_in parties party ≡ None → list_from lists land party ≡ None
  no_list_of land party new =
      let others = All-weaker (NamesKnown lands parties) (λ r. names_both land party r ≡ false) (λ r is. and_right (bytes_eq (cell r LAND) land) (bytes_eq (cell r PARTY) party) (new_differs parties (cell r PARTY) party is.party new)) lists names in
      ap (option_map votes_of) (find_none (names_both land party) lists others)

  -- the row of a new Land has no list
  blank_row : (land : List ℕ) → number_in lands land ≡ None → length parties ≤ MAX_PARTIES → row_from lists parties land ≡ replicate MAX_PARTIES None
  blank_row land new few =
      let blank = map_same (list_from lists land) None parties (λ k d l. no_list_in land (get_or parties k d) new) in
      let whole : length parties + (MAX_PARTIES - length parties) ≡ MAX_PARTIES = omega arith in
      rw blank (replicate-append-replicate (length parties) (MAX_PARTIES - length parties) None ∙ ap (λ n. replicate n None) whole)

  -- the rows with a Land more
  pub rows_with_land : (land : List ℕ) → number_in lands land ≡ None → length parties ≤ MAX_PARTIES
      → rows_from lists (lands ++ land ∷ []) parties ≡ rows_from lists lands parties ++ replicate MAX_PARTIES None ∷ []
  rows_with_land land new few = map_push (row_from lists parties) lands land ∙ ap (λ row. rows_from lists lands parties ++ row ∷ []) (blank_row land new few)

  -- a row with a party more
  row_with_party : (party : List ℕ) → number_in parties party ≡ None → length parties < MAX_PARTIES → (land : List ℕ) → row_from lists (parties ++ party ∷ []) land ≡ row_from lists parties land
  row_with_party party new free land =
      let told = map_push (list_from lists land) parties party ∙ ap (λ c. map (list_from lists land) parties ++ c ∷ []) (no_list_of land party new) in
      let fewer : MAX_PARTIES - length (parties ++ party ∷ []) ≡ MAX_PARTIES - (length parties + 1) = ap (λ n. MAX_PARTIES - n) (length_push parties party) in
      ap (λ cells. cells ++ replicate (MAX_PARTIES - length (parties ++ party ∷ [])) None) told
      ∙ ap (λ n. (map (list_from lists land) parties ++ None ∷ []) ++ replicate n None) fewer
      ∙ padded (map (list_from lists land) parties) None MAX_PARTIES (length parties) free

  pub rows_with_party : (party : List ℕ) → number_in parties party ≡ None → length parties < MAX_PARTIES → rows_from lists lands (parties ++ party ∷ []) ≡ rows_from lists lands parties
  rows_with_party party new free = map_agree (row_from lists (parties ++ party ∷ [])) (row_from lists parties) lands (λ k d l. row_with_party party new free (get_or lands k d))

-- ---- a list more

module _ (lists : List Record) (lands parties : List (List ℕ)) where
  -- what is recorded of the list at two places
  pub list_at_places : (i j : ℕ) → i < length lands → j < length parties
      → get_or (get_or (rows_from lists lands parties) i []) j None ≡ list_from lists (get_or lands i []) (get_or parties j [])
  list_at_places i j in_lands in_parties =
      let land = get_or lands i [] in
      let row : get_or (rows_from lists lands parties) i [] ≡ row_from lists parties land = get_or-map (row_from lists parties) lands i [] [] in_lands in
      let told : j < length (map (list_from lists land) parties) = omega (arith, length-map parties (list_from lists land)) in
      ap (λ row. get_or row j None) row
      ∙ get_or_append_left (map (list_from lists land) parties) (replicate (MAX_PARTIES - length parties) None) None j told
      ∙ get_or-map (list_from lists land) parties j [] None in_parties

  module _ (r : Record) (named : NamesKnown lands parties r) (lands_once : IsNameList (record { limit = MAX_LANDS; names = lands })) (parties_once : IsNameList (record { limit = MAX_PARTIES; names = parties })) where
    abbrev L : List ℕ
    L = cell r LAND

    abbrev P : List ℕ
    P = cell r PARTY

    -- it says nothing of other lists
    pub told_other : (land party : List ℕ) → names_both land party r ≡ false → list_from (lists ++ r ∷ []) land party ≡ list_from lists land party
    told_other land party other = ap (option_map votes_of) (find_push_other (names_both land party) lists r other)

    row_other : (land : List ℕ) → bytes_eq L land ≡ false → row_from (lists ++ r ∷ []) parties land ≡ row_from lists parties land
    row_other land other =
        let cells = map_agree (list_from (lists ++ r ∷ []) land) (list_from lists land) parties (λ k d l. told_other land (get_or parties k d) (and_left (bytes_eq L land) (bytes_eq P (get_or parties k d)) other)) in
        ap (λ cells. cells ++ replicate (MAX_PARTIES - length parties) None) cells

    pub told_here : list_from lists L P ≡ None → list_from (lists ++ r ∷ []) L P ≡ Some (votes_of r)
    told_here new =
        let both : names_both L P r ≡ true = and_from (bytes_eq L L) (bytes_eq P P) (same_bytes L) (same_bytes P) in
        ap (option_map votes_of) (find_push_first (names_both L P) lists r (unmapped (find (names_both L P) lists) new) both)
      where
        same_bytes : (x : List ℕ) → bytes_eq x x ≡ true
        same_bytes x = (bytes_eq-Decides x x).1 refl

        unmapped : (o : Option Record) → option_map votes_of o ≡ None → o ≡ None
        unmapped None h = refl
        unmapped (Some x) h = absurd (none-some (votes_of x) (sym h))

    row_here : list_from lists L P ≡ None → row_from (lists ++ r ∷ []) parties L ≡ set (row_from lists parties L) (place_in parties P) (Some (votes_of r))
    row_here new =
        let j = place_in parties P in
        let cells = map_at (list_from lists L) (list_from (lists ++ r ∷ []) L) parties j [] named.party
        (λ k within ne. told_other L (get_or parties k []) (and_right (bytes_eq L L) (bytes_eq P (get_or parties k [])) (elsewhere MAX_PARTIES parties P k parties_once named.party within ne))) in
        let here = ap (list_from (lists ++ r ∷ []) L) (at_place parties P named.party) ∙ told_here new in
        let told : j < length (map (list_from lists L) parties) = omega (arith, named.party, length-map parties (list_from lists L)) in
        ap (λ cells. cells ++ replicate (MAX_PARTIES - length parties) None) (cells ∙ ap (λ c. set (map (list_from lists L) parties) j c) here)
        ∙ sym (set-append_left (map (list_from lists L) parties) (replicate (MAX_PARTIES - length parties) None) j (Some (votes_of r)) told)

    pub rows_with_list : list_from lists L P ≡ None
        → rows_from (lists ++ r ∷ []) lands parties
        ≡ set (rows_from lists lands parties) (place_in lands L) (set (get_or (rows_from lists lands parties) (place_in lands L) []) (place_in parties P) (Some (votes_of r)))
    rows_with_list new =
        let i = place_in lands L in
        let rows = map_at (row_from lists parties) (row_from (lists ++ r ∷ []) parties) lands i [] named.land
        (λ k within ne. row_other (get_or lands k []) (elsewhere MAX_LANDS lands L k lands_once named.land within ne)) in
        let here = ap (row_from (lists ++ r ∷ []) parties) (at_place lands L named.land) ∙ row_here new in
        let row : get_or (rows_from lists lands parties) i [] ≡ row_from lists parties L = get_or-map (row_from lists parties) lands i [] [] named.land ∙ ap (row_from lists parties) (at_place lands L named.land) in
        rows ∙ ap (λ row. set (rows_from lists lands parties) i row) (here ∙ ap (λ row. set row (place_in parties P) (Some (votes_of r))) (sym row))
