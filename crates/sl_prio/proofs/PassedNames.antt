-- A lot's names up to a place that are the indexes of no entries.
use Rattle.std.proofs.Common.{◌≡◌, ℕ, zero, suc, ◌+◌, ◌<◌, ◌≤◌, true, false, List, [], ◌∷◌, length, get_or, nat_eq, Option, Some, None, refl, sym, ap, subst, ◌∙◌, inl, inr, arith}
use Rattle.std.proofs.lemmas.Bool.{cases_eq, cases_lt, eq-eqb, eqb-true, true≢false}
use Rattle.std.proofs.lemmas.List.Elements.{Contains-get_or}
use Rattle.sl_base_quotients.specs.declared.entry.Entry.{Entry}
use Rattle.sl_base_rankings.specs.Lot.{place_in_lot}
use Rattle.sl_prio.specs.inner.Marks.{IsPassed, first_named, have_index}
use Rattle.sl_base_rankings.proofs.Finding.{All-at, any-at, any-Contains, find-Some}
use Rattle.sl_base_rankings.proofs.LotPlaces.{found_first, found_none, place_here, place_later}
use Rattle.sl_prio.proofs.PeerMarks.{has_own}

-- a lot names an index first no later than where it names it
named_by : (lot : List ℕ) (k d : ℕ) → k < length lot → place_in_lot lot (get_or lot k d) ≤ k
named_by [] k d l = absurd (omega arith)
named_by (x ∷ xs) zero d l = let here = place_here x xs x refl in omega (arith, here)
named_by (x ∷ xs) (suc k) d l =
    let n = get_or xs k d in
    elim (cases_eq x n) [
      | inl e ↦ let here = place_here x xs n e in omega (arith, here)
      | inr other ↦
          let later = place_later x xs n other in
          let rest = named_by xs k d (omega arith) in
          omega (arith, later, rest)
    ]

-- what it names first at a place stands there
name_at : (lot : List ℕ) (n k : ℕ) → place_in_lot lot n ≡ k → k < length lot → get_or lot k 0 ≡ n
name_at [] n k e l = absurd (omega arith)
name_at (x ∷ xs) n zero e l =
    elim (cases_eq x n) [
      | inl same ↦ same
      | inr other ↦ let later = place_later x xs n other in absurd (omega (arith, later, e))
    ]
name_at (x ∷ xs) n (suc k) e l =
    elim (cases_eq x n) [
      | inl same ↦ let here = place_here x xs n same in absurd (omega (arith, here, e))
      | inr other ↦ let later = place_later x xs n other in name_at xs n k (omega (arith, later, e)) (omega arith)
    ]

module _ (lot : List ℕ) (xs : List Entry) where
  -- where it names none of them, it names none before its end
  pub none_named : first_named lot xs ≡ None → IsPassed lot (length lot) xs
  none_named none = λ i d h.
      let x = get_or xs i d in
      let e = found_none (have_index xs) lot x.index none (has_own xs x (Contains-get_or xs i d h)) in
      omega (arith, e)

  module _ (k : ℕ) (passed : IsPassed lot k xs) where
    not_before : (n : ℕ) → have_index xs n ≡ true → k ≤ place_in_lot lot n
    not_before n has =
        let w = any-Contains (λ x. nat_eq x.index n) xs has in
        subst (λ m. k ≤ place_in_lot lot m) (eqb-true w.0.index n w.2) (All-at (λ x. k ≤ place_in_lot lot x.index) xs w.0 passed w.1)

    -- past the end there is no name left
    pub none_left : length lot ≤ k → first_named lot xs ≡ None
    none_left past = by_first (first_named lot xs) refl
      where
        by_first : (o : Option ℕ) → first_named lot xs ≡ o → first_named lot xs ≡ None
        by_first None none = none
        by_first (Some n) found =
            let there = find-Some (have_index xs) lot n found in
            let from = not_before n there.1 in
            let here : there.0.0 < length lot = there.0.1 in
            let low : place_in_lot lot n ≤ there.0.0 = subst (λ m. place_in_lot lot m ≤ there.0.0) there.0.2 (named_by lot there.0.0 n here) in
            absurd (omega (arith, from, low, here, past))

    module _ (within : k < length lot) where
      -- the name at the place is passed over where it is the index of none
      pub passed_on : have_index xs (get_or lot k 0) ≡ false → IsPassed lot (k + 1) xs
      passed_on none = λ i d h.
          let x = get_or xs i d in
          let from : k ≤ place_in_lot lot x.index = passed i d h in
          elim (cases_lt k (place_in_lot lot x.index)) [
            | inl later ↦ omega (arith, later)
            | inr here ↦
                let same : get_or lot k 0 ≡ x.index = name_at lot x.index k (omega (arith, from, here)) within in
                let has = any-at (λ y. nat_eq y.index (get_or lot k 0)) xs x (Contains-get_or xs i d h) (eq-eqb x.index (get_or lot k 0) (sym same)) in
                absurd (true≢false (sym has ∙ none))
          ]

      -- where it is one, it is the first
      pub first_at : have_index xs (get_or lot k 0) ≡ true → first_named lot xs ≡ Some (get_or lot k 0)
      first_at has = by_first (first_named lot xs) refl
        where
          name : ℕ
          name = get_or lot k 0

          by_first : (o : Option ℕ) → first_named lot xs ≡ o → first_named lot xs ≡ Some name
          by_first None none =
              let end = found_none (have_index xs) lot name none has in
              let low = named_by lot k 0 within in
              absurd (omega (arith, end, low, within))
          by_first (Some n) found =
              elim (cases_eq name n) [
                | inl e ↦ found ∙ ap Some (sym e)
                | inr other ↦
                    let earlier = found_first (have_index xs) lot n name found has other in
                    let low = named_by lot k 0 within in
                    let from = not_before n (find-Some (have_index xs) lot n found).1 in
                    absurd (omega (arith, earlier, low, from))
              ]
