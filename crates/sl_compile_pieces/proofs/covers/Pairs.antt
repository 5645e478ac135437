-- The pairs of a Land and a party by their numbers, and the lists among the first of them, with a choice for each.
use Rattle.std.proofs.Common.{◌≡◌, ℕ, zero, suc, ◌+◌, ◌*◌, ◌/◌, ◌%◌, ◌<◌, ◌≤◌, Bool, true, false, cond, List, [], ◌∷◌, ◌++◌, map, filter, append_assoc, append-nil, refl, sym, ap, ap₂, ◌∙◌, inl, inr, arith}
use Rattle.std.specs.Prelude.{zip, flat_map}
use Rattle.std.specs.List.{AllZip, range_with_len}
use Rattle.std.proofs.lemmas.Bool.{cases_Bool}
use Rattle.std.proofs.lemmas.List.{map-append}
use Rattle.std.proofs.lemmas.List.Elements.{filter-append}
use Rattle.std.proofs.lemmas.List.FromFn.{filter_of_map_range_with_len_more}
use Rattle.std.proofs.lemmas.Nat.{div-mul-add, mod-mul-add}
use Rattle.sl_law_meaning.specs.returns.Election.{Election, lands_of, parties_of, has_list}
use Rattle.sl_law_meaning.specs.returns.Facts.{lists_of}

-- ---- two lists of pairs one after another

module _ {X Y : Type 0} (R : X → Y → Type 0) where
  pub all_zip_both : (xs us : List X) (ys vs : List Y) → AllZip R xs ys → AllZip R us vs → AllZip R (xs ++ us) (ys ++ vs)
  all_zip_both [] us [] vs first second = second
  all_zip_both (x ∷ xs) us (y ∷ ys) vs first second = (first.0, all_zip_both xs us ys vs first.1 second)
  all_zip_both _ us _ vs first second = absurd first

  pub zip_both : (xs us : List X) (ys vs : List Y) → AllZip R xs ys → zip (xs ++ us) (ys ++ vs) ≡ zip xs ys ++ zip us vs
  zip_both [] us [] vs first = refl
  zip_both (x ∷ xs) us (y ∷ ys) vs first = ap (λ zs. (x, y) ∷ zs) (zip_both xs us ys vs first.1)
  zip_both _ us _ vs first = absurd first

range_both : (a m n : ℕ) → range_with_len a (m + n) ≡ range_with_len a m ++ range_with_len (a + m) n
range_both a zero n =
    let same : 0 + n ≡ n = omega arith in
    let here : a ≡ a + 0 = omega arith in
    ap₂ (λ (k m : ℕ). range_with_len k m) here same
range_both a (suc m) n =
    let same : suc m + n ≡ suc (m + n) = omega arith in
    let here : a + 1 + m ≡ a + suc m = omega arith in
    ap (λ (k : ℕ). range_with_len a k) same
    ∙ ap (λ ks. a ∷ ks) (range_both (a + 1) m n ∙ ap (λ (k : ℕ). range_with_len (a + 1) m ++ range_with_len k n) here)

-- ---- the pairs

module _ (e : Election) where
  -- the pair of that number
  abbrev pub pair_at : ℕ → ℕ × ℕ
  pair_at q = (q / parties_of e, q % parties_of e)

  abbrev pub is_listed : ℕ × ℕ → Bool
  is_listed l = has_list e l.0 l.1

  -- the lists among so many pairs
  pub lists_among : ℕ → List (ℕ × ℕ)
  lists_among k = filter is_listed (map pair_at (range_with_len 0 k))

  pub pair_is : (land party : ℕ) → party < parties_of e → pair_at (land * parties_of e + party) ≡ (land, party)
  pair_is land party within = ap₂ (λ (a b : ℕ). (a, b)) (div-mul-add land (parties_of e) party within) (mod-mul-add land (parties_of e) party within)

  -- those in a Land, from a party on
  row_is : (land party count : ℕ) → party + count ≤ parties_of e →
      map {B = ℕ × ℕ} (λ p. (land, p)) (filter (has_list e land) (range_with_len party count)) ≡ filter is_listed (map pair_at (range_with_len (land * parties_of e + party) count))
  row_is land party zero within = refl
  row_is land party (suc count) within =
      let n : ℕ = land * parties_of e + party in
      let place : land * parties_of e + (party + 1) ≡ n + 1 = omega arith in
      let others : List (ℕ × ℕ) = map pair_at (range_with_len (n + 1) count) in
      let rest : map {B = ℕ × ℕ} (λ p. (land, p)) (filter (has_list e land) (range_with_len (party + 1) count)) ≡ filter is_listed others =
      row_is land (party + 1) count (omega (arith, within)) ∙ ap (λ (k : ℕ). filter is_listed (map pair_at (range_with_len k count))) place in
      let first : filter is_listed (pair_at n ∷ others) ≡ filter is_listed ((land, party) ∷ others) = ap (λ l. filter is_listed (l ∷ others)) (pair_is land party (omega (arith, within))) in
      elim (cases_Bool (has_list e land party)) [
        | inl listed ↦ rw listed (ap (λ ls. (land, party) ∷ ls) rest ∙ (λ z. cond (sym listed z) ((land, party) ∷ filter is_listed others) (filter is_listed others)) ∙ sym first)
        | inr bare ↦ rw bare (rest ∙ (λ z. cond (sym bare z) ((land, party) ∷ filter is_listed others) (filter is_listed others)) ∙ sym first)
      ]

  row : ℕ → List (ℕ × ℕ)
  row land = map (λ p. (land, p)) (filter (has_list e land) (range_with_len 0 (parties_of e)))

  rows_are : (land count : ℕ) → flat_map row (range_with_len land count) ≡ filter is_listed (map pair_at (range_with_len (land * parties_of e) (count * parties_of e)))
  unfolding row
  rows_are land zero = let none : 0 ≡ 0 * parties_of e = omega arith in ap (λ (n : ℕ). filter is_listed (map pair_at (range_with_len (land * parties_of e) n))) none
  rows_are land (suc count) =
      let n : ℕ = parties_of e in
      let here : land * n + 0 ≡ land * n = omega arith in
      let next : (land + 1) * n ≡ land * n + n = omega arith in
      let long : n + count * n ≡ suc count * n = omega arith in
      let this : row land ≡ filter is_listed (map pair_at (range_with_len (land * n) n)) =
      row_is land 0 n (omega arith) ∙ ap (λ (k : ℕ). filter is_listed (map pair_at (range_with_len k n))) here in
      let others : flat_map row (range_with_len (land + 1) count) ≡ filter is_listed (map pair_at (range_with_len (land * n + n) (count * n))) =
      rows_are (land + 1) count ∙ ap (λ (k : ℕ). filter is_listed (map pair_at (range_with_len k (count * n)))) next in
      ap₂ (λ xs ys. xs ++ ys) this others
      ∙ sym (filter-append is_listed (map pair_at (range_with_len (land * n) n)) (map pair_at (range_with_len (land * n + n) (count * n))))
      ∙ ap (filter is_listed) (sym (map-append pair_at (range_with_len (land * n) n) (range_with_len (land * n + n) (count * n))))
      ∙ ap (λ ks. filter is_listed (map pair_at ks)) (sym (range_both (land * n) n (count * n)))
      ∙ ap (λ (k : ℕ). filter is_listed (map pair_at (range_with_len (land * n) k))) long

  -- the lists among all pairs are all lists
  pub all_lists : lists_of e ≡ lists_among (lands_of e * parties_of e)
  unfolding row lists_among
  all_lists = let first : 0 * parties_of e ≡ 0 = omega arith in rows_are 0 (lands_of e) ∙ ap (λ (k : ℕ). filter is_listed (map pair_at (range_with_len k (lands_of e * parties_of e)))) first

  -- ---- one pair more

  pub no_lists : lists_among 0 ≡ []
  unfolding lists_among
  no_lists = refl

  lists_more : (k : ℕ) → lists_among (k + 1) ≡ lists_among k ++ cond (is_listed (pair_at k)) (pair_at k ∷ []) []
  unfolding lists_among
  lists_more k = filter_of_map_range_with_len_more is_listed pair_at 0 k k (omega arith)

  pub listed_more : (k : ℕ) (l : ℕ × ℕ) → pair_at k ≡ l → is_listed l ≡ true → lists_among (k + 1) ≡ lists_among k ++ l ∷ []
  listed_more k l at is = lists_more k ∙ (λ z. lists_among k ++ cond (is_listed (at z)) (at z ∷ []) []) ∙ ap (λ b. lists_among k ++ cond b (l ∷ []) []) is

  pub unlisted_more : (k : ℕ) (l : ℕ × ℕ) → pair_at k ≡ l → is_listed l ≡ false → lists_among (k + 1) ≡ lists_among k
  unlisted_more k l at not = lists_more k ∙ (λ z. lists_among k ++ cond (is_listed (at z)) (at z ∷ []) []) ∙ ap (λ b. lists_among k ++ cond b (l ∷ []) []) not ∙ append-nil (lists_among k)

  -- those among more pairs begin with those among fewer
  pub lists_behind : (k more : ℕ) → (behind : List (ℕ × ℕ)) × (lists_among (k + more) ≡ lists_among k ++ behind)
  lists_behind k zero = let same : k + 0 ≡ k = omega arith in ([], ap lists_among same ∙ sym (append-nil (lists_among k)))
  lists_behind k (suc more) =
      let same : k + suc more ≡ k + more + 1 = omega arith in
      let rest = lists_behind k more in
      let one : List (ℕ × ℕ) = cond (is_listed (pair_at (k + more))) (pair_at (k + more) ∷ []) [] in
      (rest.0 ++ one, ap lists_among same ∙ lists_more (k + more) ∙ ap (λ ls. ls ++ one) rest.1 ∙ append_assoc (lists_among k) rest.0 one)
