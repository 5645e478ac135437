-- Marks of the peers' indexes, and searches for a peer with an index.
use Rattle.std.proofs.Common.{◌≡◌, ℕ, suc, ◌+◌, ◌<◌, ◌≤◌, ◌||◌, Bool, true, false, List, [], ◌∷◌, nat_eq, length, get_or, Option, Some, None, MatchOption, Contains, IsTrue, count_by, slice_get, refl, sym, ap, subst, ◌∙◌, inl, inr, arith}
use Rattle.std.specs.List.{list_any, position_from}
use Rattle.std.proofs.Math.Bool.{or-true}
use Rattle.std.proofs.lemmas.Bool.{and_from, and_parts, cases_Bool, eq-eqb, eqb-true, false_from_ne_true, true≢false}
use Rattle.std.proofs.lemmas.List.{get_or_default}
use Rattle.std.proofs.lemmas.List.Sorted.{Contains-permutation, IsPermutation-sym}
use Rattle.std.proofs.lemmas.Option.{get_or_from_slice_get, same_Some, slice_get_within}
use Rattle.sl_base_quotients.specs.declared.entry.Entry.{Entry}
use Rattle.sl_base_rankings.specs.Peers.{peers, has_quotient_of}
use Rattle.sl_prio.specs.inner.Heap.{AreCounted, IsAt, IsHeap, is_peer_with, peers_under, subtree}
use Rattle.sl_prio.specs.inner.Marks.{AreMarks, HaveMarks, have_index}
use Rattle.sl_base_rankings.proofs.Finding.{any-at, any-Contains, count_by-no, count_by-yes, filter-Contains, Contains-cases, Contains-filter, Contains-none, Contains-tail, count_by-cons, some_counted}
use Rattle.sl_prio.proofs.Seen.{seen_under}
use Rattle.sl_prio.proofs.Subtrees.{subtree_permutation}

-- ---- marks

pub has_own : (xs : List Entry) (x : Entry) → Contains xs x → have_index xs x.index ≡ true
has_own xs x c = any-at (λ y. nat_eq y.index x.index) xs x c (eq-eqb x.index x.index refl)

-- with the indexes of the peers marked, the peers have marks
pub again_marked : (xs : List Entry) (heap : IsHeap xs) (first : Entry) (at : slice_get xs 0 ≡ Some first) (before : ℕ → Bool) (marks : List Bool)
    → AreMarks (λ index. before index || have_index (peers_under first xs 0) index) marks → HaveMarks (peers xs) marks
again_marked xs heap first at before marks held = λ x c d l.
    held x.index d l ∙ ap (λ (b : Bool). before x.index || b) (has_own (peers_under first xs 0) x (seen_under xs heap first at x c)) ∙ or-true (before x.index)

-- an index without a mark is that of no entry
pub unmarked : (xs : List Entry) (marks : List Bool) (index : ℕ) (d : Bool) → HaveMarks xs marks → index < length marks → get_or marks index d ≡ false → have_index xs index ≡ false
unmarked xs marks index d held l f =
    false_from_ne_true (have_index xs index) (λ t.
    let w = any-Contains (λ x. nat_eq x.index index) xs t in
    let e : w.0.index ≡ index = eqb-true w.0.index index w.2 in
    let marked : get_or marks index d ≡ true = subst (λ n. n < length marks → get_or marks n d ≡ true) e (held w.0 w.1 d) l in
    true≢false (sym marked ∙ f))

-- a mark that was still to be given is that of no entry
pub fresh_index : (xs : List Entry) (marks : List Bool) (index : ℕ) → HaveMarks xs marks → slice_get marks index ≡ Some false → have_index xs index ≡ false
fresh_index xs marks index held at = unmarked xs marks index false held (slice_get_within marks index false at) (get_or_from_slice_get marks index false false at)

-- ---- one that passes

module _ (p : Entry → Bool) where
  found_from : (xs : List Entry) (i j : ℕ) → position_from p i xs ≡ Some j → (k : ℕ) × (j ≡ i + k) × IsAt p xs k
  found_from [] i j h = cc
  found_from (x ∷ xs) i j h =
      elim (cases_Bool (p x)) [
        | inl t ↦
            let e : i ≡ j = same_Some i j (sym (rw t refl) ∙ h) in
            (0, omega (arith, e), record { within = omega arith; here = λ d. t })
        | inr f ↦
            let r = found_from xs (i + 1) j (sym (rw f refl) ∙ h) in
            let l : r.0 < length xs = r.2.within in
            let e : j ≡ i + 1 + r.0 = r.1 in
            (suc r.0, omega (arith, e), record { within = omega (arith, l); here = r.2.here })
      ]

  none_from : (xs : List Entry) (i : ℕ) → position_from p i xs ≡ None → list_any p xs ≡ false
  none_from [] i h = refl
  none_from (x ∷ xs) i h =
      elim (cases_Bool (p x)) [
        | inl t ↦ let found : Some i ≡ None = sym (rw t refl) ∙ h in cc
        | inr f ↦ rw f (none_from xs (i + 1) (sym (rw f refl) ∙ h))
      ]

  pub found_place : (xs : List Entry) (r : Option ℕ) → r ≡ position_from p 0 xs → MatchOption r (list_any p xs ≡ false) (IsAt p xs)
  found_place xs None h = none_from xs 0 (sym h)
  found_place xs (Some j) h =
      let r = found_from xs 0 j (sym h) in
      let e : r.0 ≡ j = let f = r.1 in omega (arith, f) in
      subst (λ k. IsAt p xs k) e r.2

  none_counted : (ys : List Entry) (y : Entry) → count_by p ys ≡ 0 → Contains ys y → p y ≡ true → ⊥
  none_counted ys y none c t = let some = some_counted p ys y c t in omega (arith, some, none)

  -- of entries of which no two pass, those that pass are one
  pub only_one : (xs : List Entry) (y z : Entry) → count_by p xs ≤ 1 → Contains xs y → Contains xs z → p y ≡ true → p z ≡ true → y ≡ z
  only_one [] y z one a b t u = absurd (Contains-none y a)
  only_one (x ∷ xs) y z one a b t u =
      elim (cases_Bool (p x)) [
        | inl here ↦
            let split = count_by-yes p x xs here in
            let none : count_by p xs ≡ 0 = omega (arith, one, split) in
            let is_y : x ≡ y = elim (Contains-cases x xs y a) [ inl e ↦ e | inr c ↦ absurd (none_counted xs y none c t) ] in
            let is_z : x ≡ z = elim (Contains-cases x xs z b) [ inl e ↦ e | inr c ↦ absurd (none_counted xs z none c u) ] in
            sym is_y ∙ is_z
        | inr other ↦
            let split = count_by-no p x xs other in
            let in_y : Contains xs y = elim (Contains-cases x xs y a) [ inl e ↦ absurd (true≢false (sym t ∙ ap p (sym e) ∙ other)) | inr c ↦ c ] in
            let in_z : Contains xs z = elim (Contains-cases x xs z b) [ inl e ↦ absurd (true≢false (sym u ∙ ap p (sym e) ∙ other)) | inr c ↦ c ] in
            only_one xs y z (omega (arith, one, split)) in_y in_z t u
      ]

-- ---- what is counted of some entries, without the first

module _ (x : Entry) (xs : List Entry) (n : ℕ) (marked : Bool) (old : List Bool) (held : AreCounted (x ∷ xs) n marked old) where
  none_other : IsTrue marked → have_index xs x.index ≡ false
  none_other t =
      let p = λ (y : Entry). nat_eq y.index x.index in
      let most = held.apart t x.index in
      let split = count_by-yes p x xs (eq-eqb x.index x.index refl) in
      false_from_ne_true (have_index xs x.index) (λ has. let w = any-Contains p xs has in none_counted p xs w.0 (omega (arith, most, split)) w.1 w.2)

  pub others_counted : (m : ℕ) (new : List Bool) → m + 1 ≡ n → (IsTrue marked → (ys : List Entry) → have_index ys x.index ≡ false → HaveMarks ys old → HaveMarks ys new) → AreCounted xs m marked new
  others_counted m new less kept = record {
    counted = let count = held.counted in omega (arith, less, count);
    apart = λ t index. let most = held.apart t index in let split = count_by-cons (λ y. nat_eq y.index index) x xs in omega (arith, most, split);
    indexes = λ t. kept t xs (none_other t) (λ y c. held.indexes t y (Contains-tail x xs y c));
  }

-- ---- a peer with an index

module _ (xs : List Entry) (first : Entry) where
  -- those below the first place are entries with the quotient of the first
  pub under_has : (x : Entry) → Contains (peers_under first xs 0) x → Contains xs x × (has_quotient_of first x ≡ true)
  under_has x c =
      let there = filter-Contains (has_quotient_of first) (subtree xs 0) x c in
      (Contains-permutation (subtree xs 0) xs x (IsPermutation-sym xs (subtree xs 0) (subtree_permutation xs)) there.0, there.1)

  pub has_under : (x : Entry) → Contains xs x → has_quotient_of first x ≡ true → Contains (peers_under first xs 0) x
  has_under x c t = Contains-filter (has_quotient_of first) (subtree xs 0) x (Contains-permutation xs (subtree xs 0) x (subtree_permutation xs) c) t

  pub none_with : (index : ℕ) → list_any (is_peer_with first index) xs ≡ false → have_index (peers_under first xs 0) index ≡ false
  none_with index none =
      false_from_ne_true (have_index (peers_under first xs 0) index) (λ t.
      let w = any-Contains (λ x. nat_eq x.index index) (peers_under first xs 0) t in
      let there = under_has w.0 w.1 in
      true≢false (sym (any-at (is_peer_with first index) xs w.0 there.0 (and_from (nat_eq w.0.index index) (has_quotient_of first w.0) w.2 there.1)) ∙ none))

  pub found_with : (index : ℕ) (r : Option ℕ) → r ≡ position_from (is_peer_with first index) 0 xs
      → MatchOption r (have_index (peers_under first xs 0) index ≡ false) (IsAt (is_peer_with first index) xs)
  found_with index None h = none_with index (found_place (is_peer_with first index) xs None h)
  found_with index (Some k) h = found_place (is_peer_with first index) xs (Some k) h

  module _ (index k : ℕ) (h : IsAt (is_peer_with first index) xs k) (d : Entry) where
    parts : (nat_eq (get_or xs k d).index index ≡ true) × (has_quotient_of first (get_or xs k d) ≡ true)
    parts = and_parts (nat_eq (get_or xs k d).index index) (has_quotient_of first (get_or xs k d)) (h.here d)

    pub its_index : (get_or xs k d).index ≡ index
    its_index = eqb-true (get_or xs k d).index index parts.0

    pub is_under : Contains (peers_under first xs 0) (get_or xs k d)
    is_under = has_under (get_or xs k d) (k, h.within, sym (get_or_default xs k d (get_or xs k d) h.within)) parts.1

    pub has_it : have_index (peers_under first xs 0) index ≡ true
    has_it = any-at (λ y. nat_eq y.index index) (peers_under first xs 0) (get_or xs k d) is_under parts.0
