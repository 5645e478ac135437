-- A lot draws as the first of its names does that is the index of an entry, alone, or as a lot without names does.
use Rattle.std.proofs.Common.{◌≡◌, ℕ, ◌<◌, true, List, [], ◌∷◌, get_or, option_to_list, Option, Some, None, All, Contains, refl, sym, ap, subst, ◌∙◌, inl, inr, arith}
use Rattle.std.specs.Prelude.{nat_eq}
use Rattle.std.specs.Cmp.{nat_cmp_total, tied_itself}
use Rattle.std.specs.declared.cmp.Ordering.{Ordering}
use Rattle.std.specs.declared.cmp.Ordering.TheVariants.{Less, Equal}
use Rattle.std.specs.Ordering.{nat_cmp, is_le, ordering_then}
use Rattle.std.proofs.lemmas.Bool.{cases_eq, eq-eqb, eqb-true, lt-ltb}
use Rattle.std.proofs.lemmas.List.Elements.{All-cons, Contains-get_or}
use Rattle.sl_base_quotients.specs.declared.entry.Entry.{Entry}
use Rattle.sl_base_quotients.specs.Entry.{entry_cmp}
use Rattle.sl_base_rankings.specs.Lot.{place_in_lot, lot_cmp}
use Rattle.sl_prio.specs.inner.Heap.{IsDrawnOf}
use Rattle.sl_prio.specs.inner.Marks.{first_named, have_index}
use Rattle.sl_base_rankings.proofs.Finding.{All-at, any-at, any-Contains, find-Some, Contains-cases, Contains-tail}
use Rattle.sl_base_rankings.proofs.Greatest.{AtMost}
use Rattle.sl_base_rankings.proofs.LotPlaces.{found_first, found_none, not_later, place_here, place_later}

module _ (lot : List ℕ) (y z : Entry) where
  -- how a lot draws of two entries that stand at one place in it
  abbrev by_index : Ordering
  by_index = ordering_then (nat_cmp y.index z.index) (entry_cmp z y)

  pub at_one_place : place_in_lot lot y.index ≡ place_in_lot lot z.index → lot_cmp lot z y ≡ by_index
  at_one_place e =
      let tied : nat_cmp (place_in_lot lot y.index) (place_in_lot lot z.index) ≡ Equal =
      ap (nat_cmp (place_in_lot lot y.index)) (sym e) ∙ tied_itself nat_cmp_total (place_in_lot lot y.index) in
      ap (λ r. ordering_then (ordering_then r (nat_cmp y.index z.index)) (entry_cmp z y)) tied

  pub before_later : place_in_lot lot y.index < place_in_lot lot z.index → AtMost (lot_cmp lot) y z
  before_later l =
      let less : nat_cmp (place_in_lot lot y.index) (place_in_lot lot z.index) ≡ Less = rw (lt-ltb (place_in_lot lot y.index) (place_in_lot lot z.index) l) refl in
      ap (λ r. is_le (ordering_then (ordering_then r (nat_cmp y.index z.index)) (entry_cmp z y))) less

-- of two entries that stand at one place in each of two lots, both draw alike
drawn_alike : (lot other : List ℕ) (y z : Entry) → place_in_lot lot y.index ≡ place_in_lot lot z.index → place_in_lot other y.index ≡ place_in_lot other z.index
    → AtMost (lot_cmp other) y z → AtMost (lot_cmp lot) y z
drawn_alike lot other y z e f h = ap is_le (at_one_place lot y z e ∙ sym (at_one_place other y z f)) ∙ h

module _ (lot : List ℕ) (xs : List Entry) (y : Entry) (here : Contains xs y) where
  has : (z : Entry) → Contains xs z → have_index xs z.index ≡ true
  has z c = any-at (λ x. nat_eq x.index z.index) xs z c (eq-eqb z.index z.index refl)

  pub by_no_name : first_named lot xs ≡ None → (z : Entry) → Contains xs z → AtMost (lot_cmp []) y z → AtMost (lot_cmp lot) y z
  by_no_name none z c =
      drawn_alike lot [] y z (found_none (have_index xs) lot y.index none (has y here) ∙ sym (found_none (have_index xs) lot z.index none (has z c))) refl

  module _ (n : ℕ) (found : first_named lot xs ≡ Some n) (most : All (AtMost (lot_cmp (n ∷ [])) y) xs) where
    -- the drawn entry has the index that is named
    named_index : y.index ≡ n
    named_index =
        let passes : have_index xs n ≡ true = (find-Some (have_index xs) lot n found).1 in
        let w = any-Contains (λ x. nat_eq x.index n) xs passes in
        let is : w.0.index ≡ n = eqb-true w.0.index n w.2 in
        let up = not_later (n ∷ []) y w.0 (All-at (AtMost (lot_cmp (n ∷ [])) y) xs w.0 most w.1) in
        let first = place_here n [] w.0.index (sym is) in
        elim (cases_eq n y.index) [
          | inl e ↦ sym e
          | inr other ↦ let later = place_later n [] y.index other in absurd (omega (arith, up, first, later))
        ]

    by_one_name : (z : Entry) → Contains xs z → AtMost (lot_cmp lot) y z
    by_one_name z c =
        elim (cases_eq z.index n) [
          | inl e ↦
              let same : y.index ≡ z.index = named_index ∙ sym e in
              drawn_alike lot (n ∷ []) y z (ap (place_in_lot lot) same) (ap (place_in_lot (n ∷ [])) same) (All-at (AtMost (lot_cmp (n ∷ [])) y) xs z most c)
          | inr other ↦
              before_later lot y z
              (subst (λ k. place_in_lot lot k < place_in_lot lot z.index) (sym named_index) (found_first (have_index xs) lot n z.index found (has z c) other))
        ]

  drawn_by : (o : Option ℕ) → first_named lot xs ≡ o → All (AtMost (lot_cmp (option_to_list o)) y) xs → All (AtMost (lot_cmp lot) y) xs
  drawn_by None e most = λ k d l. by_no_name e (get_or xs k d) (Contains-get_or xs k d l) (most k d l)
  drawn_by (Some n) e most = λ k d l. by_one_name n e most (get_or xs k d) (Contains-get_or xs k d l)

-- of one of some entries and the others, the first name draws the same as the lot
pub drawn_by_first : (lot : List ℕ) (xs : List Entry) (x y : Entry) → Contains xs x → IsDrawnOf (option_to_list (first_named lot xs)) xs x y → IsDrawnOf lot xs x y
drawn_by_first lot xs x y c h =
    let front = option_to_list (first_named lot xs) in
    let among : Contains xs y = elim (Contains-cases x xs y h.among) [ inl e ↦ subst (λ (z : Entry). Contains xs z) e c | inr k ↦ k ] in
    let most = drawn_by lot xs y among (first_named lot xs) refl
    (λ k d l. All-at (AtMost (lot_cmp front) y) (x ∷ xs) (get_or xs k d) h.most (Contains-tail x xs (get_or xs k d) (Contains-get_or xs k d l))) in
    record { among = h.among; most = All-cons (AtMost (lot_cmp lot) y) x xs (All-at (AtMost (lot_cmp lot) y) xs x most c) most }
