-- Sums over the lists of an election: of their numbers in a column, and of the lines of a table.
use Rattle.std.proofs.Common.{◌≡◌, ℕ, zero, suc, ◌+◌, ◌-◌, ◌*◌, ◌<◌, ◌≤◌, Bool, true, false, List, [], ◌∷◌, length, take, get_or, map, filter, max, sum, sum_by, inl, inr, arith, refl, sym, ap, subst, ◌∙◌}
use Rattle.std.specs.Prelude.{flat_map}
use Rattle.std.specs.List.{AllByRecursion as Every, AllZip, range_with_len}
use Rattle.std.proofs.lemmas.Bool.{cases_Bool, cond-true, cond-false}
use Rattle.std.proofs.lemmas.List.{map-append, take_all}
use Rattle.std.proofs.lemmas.List.Sums.{sum_by-cons, sum_by-append, sum_by_more}
use Rattle.sl_law_meaning.specs.returns.Election.{Election, lands_of, parties_of, has_list}
use Rattle.sl_law_meaning.specs.returns.Facts.{lands, parties, each_list, lists_of, list_cell}
use Rattle.sl_law_meaning.specs.laws.MeaningLaws.{IsListOf}
use Rattle.sl_law_meaning.proofs.meaning.DistinctLists.{every_weaker, every_map, every_passes, every_pieces}
use Rattle.sl_law_fairness.specs.Winners.{base_seats}

-- ---- sums of lists made of others

module _ {X : Type 0} where
  pub sum_agree : (f g : X → ℕ) (xs : List X) → Every (λ x. f x ≡ g x) xs → sum_by f xs ≡ sum_by g xs
  sum_agree f g [] all = refl
  sum_agree f g (x ∷ xs) all = let rest = sum_agree f g xs all.1 in sum_by-cons f x xs ∙ omega (arith, rest, all.0, sum_by-cons g x xs)

  pub sum_mapped : {Y : Type 0} (g : Y → ℕ) (f : X → Y) (xs : List X) → sum_by g (map f xs) ≡ sum_by (λ x. g (f x)) xs
  sum_mapped g f [] = refl
  sum_mapped g f (x ∷ xs) = let rest = sum_mapped g f xs in sum_by-cons g (f x) (map f xs) ∙ omega (arith, rest, sum_by-cons (λ x. g (f x)) x xs)

  pub sum_pieces : {Y : Type 0} (g : Y → ℕ) (f : X → List Y) (xs : List X) → sum_by g (flat_map f xs) ≡ sum_by (λ x. sum_by g (f x)) xs
  sum_pieces g f [] = refl
  sum_pieces g f (x ∷ xs) =
      let rest = sum_pieces g f xs in
      sum_by-append g (f x) (flat_map f xs) ∙ omega (arith, rest, sum_by-cons (λ x. sum_by g (f x)) x xs)

  -- what fails the test counts nothing
  pub sum_passing : (p : X → Bool) (g : X → ℕ) (xs : List X) → Every (λ x. p x ≡ false → g x ≡ 0) xs → sum_by g (filter p xs) ≡ sum_by g xs
  sum_passing p g [] all = refl
  sum_passing p g (x ∷ xs) all =
      let rest = sum_passing p g xs all.1 in
      elim (cases_Bool (p x)) [
        | inl yes' ↦ ap (sum_by g) (cond-true (p x) (x ∷ filter p xs) (filter p xs) yes') ∙ sum_by-cons g x (filter p xs) ∙ omega (arith, rest, sum_by-cons g x xs)
        | inr no' ↦ ap (sum_by g) (cond-false (p x) (x ∷ filter p xs) (filter p xs) no') ∙ (let none = all.0 no' in omega (arith, rest, none, sum_by-cons g x xs))
      ]

  -- the larger of two numbers is the first with what the second has beyond it
  pub sum_larger : (f g : X → ℕ) (xs : List X) → sum_by (λ x. max (f x) (g x)) xs ≡ sum_by f xs + sum_by (λ x. g x - f x) xs
  sum_larger f g [] = refl
  sum_larger f g (x ∷ xs) =
      let rest = sum_larger f g xs in
      sum_by-cons (λ x. max (f x) (g x)) x xs ∙ omega (arith, rest, sum_by-cons f x xs, sum_by-cons (λ x. g x - f x) x xs)

  pub zip_map : {Y : Type 0} (R : X → Y → Type 0) (f : X → Y) (xs : List X) → Every (λ x. R x (f x)) xs → AllZip R xs (map f xs)
  zip_map R f [] all = tt
  zip_map R f (x ∷ xs) all = (all.0, zip_map R f xs all.1)

pub map_mapped : {X Y Z : Type 0} (g : Y → Z) (f : X → Y) (xs : List X) → map g (map f xs) ≡ map (λ x. g (f x)) xs
map_mapped g f [] = refl
map_mapped g f (x ∷ xs) = ap (λ zs. g (f x) ∷ zs) (map_mapped g f xs)

map_pieces : {X Y Z : Type 0} (g : Y → Z) (f : X → List Y) (h : X → List Z) → ((x : X) → map g (f x) ≡ h x) → (xs : List X) → map g (flat_map f xs) ≡ flat_map h xs
map_pieces g f h same [] = refl
map_pieces g f h same (x ∷ xs) = map-append g (f x) (flat_map f xs) ∙ cc (same x, map_pieces g f h same xs)

-- ---- the lists

pub each_is_map : {X : Type 0} (e : Election) (f : ℕ → ℕ → X) → each_list e f ≡ map (λ l. f l.0 l.1) (lists_of e)
each_is_map e f =
    sym (map_pieces (λ l. f l.0 l.1) (λ land. map (λ party. (land, party)) (filter (has_list e land) (parties e))) (λ land. map (f land) (filter (has_list e land) (parties e)))
    (λ land. map_mapped (λ l. f l.0 l.1) (λ party. (land, party)) (filter (has_list e land) (parties e))) (lands e))

below_from : (a n m : ℕ) → a + n ≤ m → Every (λ k. k < m) (range_with_len a n)
below_from a zero m le = tt
below_from a (suc n) m le = (omega arith, below_from (a + 1) n m (omega arith))

pub below : (n : ℕ) → Every (λ k. k < n) (range_with_len 0 n)
below n = below_from 0 n n (omega arith)

pub are_lists : (e : Election) → Every (λ l. IsListOf e l.0 l.1) (lists_of e)
are_lists e =
    every_pieces (λ l. IsListOf e l.0 l.1) (λ land. map (λ party. (land, party)) (filter (has_list e land) (parties e))) (lands e)
    (every_weaker (λ land. land < lands_of e) (λ land. Every (λ l. IsListOf e l.0 l.1) (map (λ party. (land, party)) (filter (has_list e land) (parties e))))
    (λ land in_lands. every_map (λ l. IsListOf e l.0 l.1) (λ party. (land, party)) (filter (has_list e land) (parties e))
    (every_weaker (λ party. (party < parties_of e) × (has_list e land party ≡ true)) (λ party. IsListOf e land party)
    (λ party h. record { in_lands = in_lands; in_parties = h.0; has = h.1 }) (filter (has_list e land) (parties e))
    (every_passes (λ party. party < parties_of e) (has_list e land) (parties e) (below (parties_of e))))) (lands e) (below (lands_of e)))

-- ---- a column of pairs of Land and party is summed row by row

module _ (xs : List ℕ) where
  sum_row : (c a n : ℕ) → c + a + n ≤ length xs → sum_by (λ i. get_or xs (c + i) 0) (range_with_len a n) + sum (take (c + a) xs) ≡ sum (take (c + a + n) xs)
  sum_row c a zero le =
      let same : sum (take (c + a) xs) ≡ sum (take (c + a + zero) xs) = ap (λ k. sum (take k xs)) (let e : c + a ≡ c + a + zero = omega arith in e) in
      omega (arith, same)
  sum_row c a (suc n) le =
      let rest = sum_row c (a + 1) n (omega arith) in
      let more : sum (take (c + a + 1) xs) ≡ sum (take (c + a) xs) + get_or xs (c + a) 0 = sum_by_more (λ n. n) xs (c + a) 0 (omega arith) in
      let next : sum (take (c + (a + 1)) xs) ≡ sum (take (c + a + 1) xs) = ap (λ k. sum (take k xs)) (let e : c + (a + 1) ≡ c + a + 1 = omega arith in e) in
      let end : sum (take (c + (a + 1) + n) xs) ≡ sum (take (c + a + suc n) xs) = ap (λ k. sum (take k xs)) (let e : c + (a + 1) + n ≡ c + a + suc n = omega arith in e) in
      let first = sum_by-cons (λ i. get_or xs (c + i) 0) a (range_with_len (a + 1) n) in
      omega (arith, rest, more, next, end, first)

  sum_rows : (p a n : ℕ) → (a + n) * p ≤ length xs →
      sum_by (λ l. sum_by (λ i. get_or xs (l * p + i) 0) (range_with_len 0 p)) (range_with_len a n) + sum (take (a * p) xs) ≡ sum (take ((a + n) * p) xs)
  sum_rows p a zero le =
      let same : sum (take (a * p) xs) ≡ sum (take ((a + zero) * p) xs) = ap (λ k. sum (take (k * p) xs)) (let e : a ≡ a + zero = omega arith in e) in
      omega (arith, same)
  sum_rows p a (suc n) le =
      let same : a + 1 + n ≡ a + suc n = omega arith in
      let wide : (a + 1 + n) * p ≤ length xs = subst (λ k. k * p ≤ length xs) (sym same) le in
      let rest = sum_rows p (a + 1) n wide in
      let fits : a * p + 0 + p ≤ length xs = omega (arith, wide) in
      let row = sum_row (a * p) 0 p fits in
      let start : sum (take (a * p + 0) xs) ≡ sum (take (a * p) xs) = ap (λ k. sum (take k xs)) (let e : a * p + 0 ≡ a * p = omega arith in e) in
      let next : sum (take (a * p + 0 + p) xs) ≡ sum (take ((a + 1) * p) xs) = ap (λ k. sum (take k xs)) (let e : a * p + 0 + p ≡ (a + 1) * p = omega arith in e) in
      let end : sum (take ((a + 1 + n) * p) xs) ≡ sum (take ((a + suc n) * p) xs) = ap (λ k. sum (take (k * p) xs)) same in
      let first = sum_by-cons (λ l. sum_by (λ i. get_or xs (l * p + i) 0) (range_with_len 0 p)) a (range_with_len (a + 1) n) in
      omega (arith, rest, row, start, next, end, first)

-- a column that has 0 for each pair without a list sums to what its lists have
pub sum_of_lists : (e : Election) (base : List ℕ) → length base ≡ lands_of e * parties_of e →
    ((land party : ℕ) → land < lands_of e → party < parties_of e → has_list e land party ≡ false → list_cell e base land party ≡ 0) →
    sum_by (base_seats e base) (lists_of e) ≡ sum base
sum_of_lists e base size alone =
    let cell : ℕ → ℕ → ℕ = λ land party. list_cell e base land party in
    let all : 0 + lands_of e ≡ lands_of e = omega arith in
    let fits : (0 + lands_of e) * parties_of e ≤ length base = subst (λ k. k * parties_of e ≤ length base) (sym all) (omega (arith, size)) in
    let rows = sum_rows base (parties_of e) 0 (lands_of e) fits in
    let none : sum (take (0 * parties_of e) base) ≡ 0 = ap (λ k. sum (take k base)) (let e : 0 * parties_of e ≡ 0 = omega arith in e) in
    let whole : sum (take ((0 + lands_of e) * parties_of e) base) ≡ sum base = ap (λ k. sum (take (k * parties_of e) base)) all ∙ ap sum (take_all (lands_of e * parties_of e) base (omega (arith, size))) in
    sum_pieces (base_seats e base) (λ land. map (λ party. (land, party)) (filter (has_list e land) (parties e))) (lands e)
    ∙ sum_agree (λ land. sum_by (base_seats e base) (map (λ party. (land, party)) (filter (has_list e land) (parties e)))) (λ land. sum_by (cell land) (parties e)) (lands e)
    (every_weaker (λ land. land < lands_of e) (λ land. sum_by (base_seats e base) (map (λ party. (land, party)) (filter (has_list e land) (parties e))) ≡ sum_by (cell land) (parties e))
    (λ land in_lands. sum_mapped (base_seats e base) (λ party. (land, party)) (filter (has_list e land) (parties e))
    ∙ sum_passing (has_list e land) (cell land) (parties e)
    (every_weaker (λ party. party < parties_of e) (λ party. has_list e land party ≡ false → cell land party ≡ 0) (λ party in_parties none. alone land party in_lands in_parties none) (parties e) (below (parties_of e))))
    (lands e) (below (lands_of e)))
    ∙ omega (arith, rows, none, whole)
