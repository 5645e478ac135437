-- The peers of a table, and what scans of a table answer.
use Rattle.std.proofs.Common.{◌≡◌, ℕ, ◌<◌, ◌*◌, ◌≤◌, ◌&&◌, Bool, true, List, [], length, MatchOption, Option, Some, None, slice_get, All, Contains, count_by, refl, sym, ap, subst, ◌∙◌, arith}
use Rattle.std.specs.Cmp.{nat_cmp_total, tied_itself, both_ways}
use Rattle.std.specs.List.{AllWithin, HoldsAt, filter, list_all}
use Rattle.std.specs.Option.{option_map_or}
use Rattle.std.specs.Ordering.{is_eq, is_gt, is_ge}
use Rattle.std.proofs.lemmas.List.Sorted.{All-permutation, Contains-permutation, IsPermutation-sym, length_permutation}
use Rattle.std.proofs.lemmas.List.Sums.{AllPass-from_list_all, list_all-from_AllPass}
use Rattle.sl_base_quotients.specs.declared.entry.Entry.{Entry}
use Rattle.sl_base_quotients.specs.Entry.{entry_cmp}
use Rattle.sl_base_rankings.specs.Ranking.{greatest, ranked}
use Rattle.sl_base_rankings.specs.Peers.{top, peers, has_quotient_of}
use Rattle.sl_base_rankings.specs.Lot.{lot_cmp, drawn}
use Rattle.sl_base_rankings.proofs.Finding.{Contains-filter, filter-Contains, count_by-filter, slice_get-Contains}
use Rattle.sl_base_rankings.proofs.Greatest.{AtMost, greatest-is, greatest-Some}
use Rattle.sl_base_rankings.proofs.Orders.{entry_order, lot_order}
use Rattle.sl_base_rankings.proofs.Rankings.{counts_alike, ranked-permutation, ranked-falls, stands_at, placed_at}

pub has_own_quotient : (x : Entry) → has_quotient_of x x ≡ true
has_own_quotient x = ap is_eq (tied_itself nat_cmp_total (x.ratio.num * x.ratio.den))

-- a table with this top
module _ (xs : List Entry) (first : Entry) (is_top : top xs ≡ Some first) where
  -- its peers as they are listed
  abbrev pub listed : List Entry
  listed = filter (has_quotient_of first) xs

  pub peers-at_top : peers xs ≡ ranked listed
  peers-at_top = ap (λ o. option_map_or (λ t. ranked (filter (has_quotient_of t) xs)) o []) is_top

  pub top-Contains : Contains xs first
  top-Contains = (greatest-Some entry_cmp entry_order xs first is_top).0

  pub top-peer : Contains listed first
  top-peer = Contains-filter (has_quotient_of first) xs first top-Contains (has_own_quotient first)

  pub peers-length : length listed ≡ length (peers xs)
  peers-length = sym (length_permutation listed (ranked listed) (ranked-permutation listed)) ∙ ap length (sym peers-at_top)

  pub peers-list_all : (p : Entry → Bool) → list_all p listed ≡ list_all p (peers xs)
  peers-list_all p =
      both_ways (list_all p listed) (list_all p (ranked listed))
      (λ h. list_all-from_AllPass p (ranked listed) (All-permutation (λ x. p x ≡ true) listed (ranked listed) (ranked-permutation listed) (AllPass-from_list_all p listed h)))
      (λ h. list_all-from_AllPass p listed (All-permutation (λ x. p x ≡ true) (ranked listed) listed (IsPermutation-sym listed (ranked listed) (ranked-permutation listed)) (AllPass-from_list_all p (ranked listed) h))) ∙
      ap (list_all p) (sym peers-at_top)

  pub drawn-is : (lot : List ℕ) (x : Entry) → Contains listed x → All (AtMost (lot_cmp lot) x) listed → drawn lot xs ≡ Some x
  drawn-is lot x here most =
      let p = ranked-permutation listed in
      ap (greatest (lot_cmp lot)) peers-at_top ∙
      greatest-is (lot_cmp lot) (lot_order lot) (ranked listed) x (Contains-permutation listed (ranked listed) x p here) (All-permutation (AtMost (lot_cmp lot) x) listed (ranked listed) p most)

-- the entries with the quotient of one of them, by how many of them are greater and how many are no smaller
module _ (xs : List Entry) (first : Entry) (i : ℕ) (x : Entry) where
  abbrev peers_of : List Entry
  peers_of = filter (has_quotient_of first) xs

  counted_alike : (p : Entry → Bool) → count_by (λ y. has_quotient_of first y && p y) xs ≡ count_by p (ranked peers_of)
  counted_alike p = sym (count_by-filter (has_quotient_of first) p xs) ∙ counts_alike peers_of (ranked peers_of) (ranked-permutation peers_of) p

  abbrev pub peers_greater : ℕ
  peers_greater = count_by (λ y. has_quotient_of first y && is_gt (entry_cmp y x)) xs

  abbrev pub peers_no_smaller : ℕ
  peers_no_smaller = count_by (λ y. has_quotient_of first y && is_ge (entry_cmp y x)) xs

  pub stands : peers_greater ≤ i → i < peers_no_smaller → slice_get (ranked peers_of) i ≡ Some x
  stands low high =
      let gt = counted_alike (λ y. is_gt (entry_cmp y x)) in
      let ge = counted_alike (λ y. is_ge (entry_cmp y x)) in
      stands_at entry_order (ranked peers_of) i x (ranked-falls entry_order peers_of) (omega (arith, gt)) (omega (arith, ge))

  pub place_of : slice_get (ranked peers_of) i ≡ Some x → (peers_greater ≤ i) × (i < peers_no_smaller)
  place_of h =
      let gt = counted_alike (λ y. is_gt (entry_cmp y x)) in
      let ge = counted_alike (λ y. is_ge (entry_cmp y x)) in
      let r = placed_at entry_order (ranked peers_of) i x (ranked-falls entry_order peers_of) h in
      (omega (arith, gt, r.0), omega (arith, ge, r.1))

  place-Contains : slice_get (ranked peers_of) i ≡ Some x → Contains peers_of x
  place-Contains h =
      Contains-permutation (ranked peers_of) peers_of x (IsPermutation-sym peers_of (ranked peers_of) (ranked-permutation peers_of)) (slice_get-Contains (ranked peers_of) i x h)

  pub place-peer : slice_get (ranked peers_of) i ≡ Some x → has_quotient_of first x ≡ true
  place-peer h = (filter-Contains (has_quotient_of first) xs x (place-Contains h)).1

-- what a search for the peer at a place answers
pub member-from_find : (xs : List Entry) (first : Entry) (i : ℕ) (r : Option Entry)
    → MatchOption r
    (AllWithin (λ x. slice_get (ranked (filter (has_quotient_of first) xs)) i ≡ Some x → ⊥) xs 0 (length xs))
    (λ x. (slice_get (ranked (filter (has_quotient_of first) xs)) i ≡ Some x) × (k : ℕ) × (k < length xs) × HoldsAt (λ y. y ≡ x) xs k × AllWithin (λ x. slice_get (ranked (filter (has_quotient_of first) xs)) i ≡ Some x → ⊥) xs 0 k)
    → r ≡ slice_get (ranked (filter (has_quotient_of first) xs)) i
member-from_find xs first i (Some x) h = sym h.0
member-from_find xs first i None none = sym (lacks (slice_get (ranked (filter (has_quotient_of first) xs)) i) refl)
  where
    lacks : (o : Option Entry) → slice_get (ranked (filter (has_quotient_of first) xs)) i ≡ o → slice_get (ranked (filter (has_quotient_of first) xs)) i ≡ None
    lacks None e = e
    lacks (Some x) e =
        let here = (filter-Contains (has_quotient_of first) xs x (place-Contains xs first i x e)).0 in
        absurd (subst (λ (y : Entry). slice_get (ranked (filter (has_quotient_of first) xs)) i ≡ Some y → ⊥) here.2 (none here.0 x (omega arith) here.1) e)
