-- Functions that agree on each list give the same of all lists.
use Rattle.std.proofs.Common.{◌≡◌, ℕ, ◌<◌, All, List, [], ◌∷◌, map, filter, get_or, refl, arith}
use Rattle.std.specs.List.{flat_map, range_with_len}
use Rattle.std.proofs.lemmas.List.Elements.{All-head, All-tail, All-filter, All-from_get_or, filter_passes}
use Rattle.std.proofs.lemmas.List.FromFn.{length-range_with_len, get_or-range_with_len}
use Rattle.sl_law_meaning.specs.returns.Election.{Election, lands_of, parties_of, has_list}
use Rattle.sl_law_meaning.specs.returns.Facts.{lands, parties, each_list}
use Rattle.sl_law_meaning.specs.laws.MeaningLaws.{IsListOf}

-- functions that agree on each element make the same list of them
map_agree : {X Y : Type 0} (f g : X → Y) (xs : List X) → All (λ x. f x ≡ g x) xs → map f xs ≡ map g xs
map_agree f g [] all = refl
map_agree f g (x ∷ xs) all = cc (All-head (λ x. f x ≡ g x) x xs all, map_agree f g xs (All-tail (λ x. f x ≡ g x) x xs all))

pub pieces_agree : {X Y : Type 0} (f g : X → List Y) (xs : List X) → All (λ x. f x ≡ g x) xs → flat_map f xs ≡ flat_map g xs
pieces_agree f g [] all = refl
pieces_agree f g (x ∷ xs) all = cc (All-head (λ x. f x ≡ g x) x xs all, pieces_agree f g xs (All-tail (λ x. f x ≡ g x) x xs all))

-- each number of a range is below its end
below : (n : ℕ) → All (λ k. k < n) (range_with_len 0 n)
below n = All-from_get_or (λ k. k < n) (range_with_len 0 n) 0 (λ i within. let is = get_or-range_with_len 0 n i 0 (omega (arith, length-range_with_len 0 n)) in omega (arith, is, length-range_with_len 0 n))

module _ {X : Type 0} (e : Election) (f g : ℕ → ℕ → X) (same : (land party : ℕ) → IsListOf e land party → f land party ≡ g land party) where
  in_land : (land : ℕ) → land < lands_of e → map (f land) (filter (has_list e land) (parties e)) ≡ map (g land) (filter (has_list e land) (parties e))
  in_land land within =
      let all = All-filter (has_list e land) (λ party. party < parties_of e) (parties e) (below (parties_of e)) in
      let has = filter_passes (has_list e land) (parties e) in
      map_agree (f land) (g land) (filter (has_list e land) (parties e))
      (λ i d less. same land (get_or (filter (has_list e land) (parties e)) i d) (record { in_lands = within; in_parties = all i d less; has = has i d less }))

  pub each_list_agree : each_list e f ≡ each_list e g
  each_list_agree =
      pieces_agree (λ land. map (f land) (filter (has_list e land) (parties e))) (λ land. map (g land) (filter (has_list e land) (parties e))) (lands e)
      (λ i d less. in_land (get_or (lands e) i d) (below (lands_of e) i d less))
