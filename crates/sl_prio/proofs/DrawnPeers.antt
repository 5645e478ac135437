-- Which peer a lot draws, by the first of its names that is the index of a peer.
use Rattle.std.proofs.Common.{◌≡◌, ◌<◌, ℕ, true, List, [], length, get_or, option_to_list, None, Some, All, Contains, slice_get, refl, sym, ap, subst, ◌∙◌, inl, inr}
use Rattle.std.specs.Prelude.{nat_eq}
use Rattle.std.specs.declared.cmp.Ordering.{Ordering}
use Rattle.std.specs.declared.cmp.Ordering.TheVariants.{Less, Equal, Greater}
use Rattle.std.specs.Ordering.{nat_cmp, is_le, ordering_reverse, ordering_then}
use Rattle.std.proofs.lemmas.Bool.{cases_eq, eq-eqb}
use Rattle.std.proofs.lemmas.List.Elements.{All-cons, Contains-get_or}
use Rattle.std.proofs.lemmas.Option.{get_or_from_slice_get, slice_get_within}
use Rattle.sl_base_quotients.specs.declared.entry.Entry.{Entry}
use Rattle.sl_base_quotients.specs.Entry.{entry_cmp, quotient_cmp}
use Rattle.sl_base_quotients.specs.inner.EntryLaws.{quotient_total}
use Rattle.sl_base_rankings.specs.Peers.{has_quotient_of, top}
use Rattle.sl_base_rankings.specs.Lot.{lot_cmp}
use Rattle.sl_prio.specs.inner.Heap.{IsDrawnFrom, IsDrawnOf, IsFirstNamed, IsHeap, peers_under}
use Rattle.sl_prio.specs.inner.Marks.{AreApart, first_named, have_index}
use Rattle.sl_base_rankings.proofs.Finding.{All-at, Contains-tail, any-at}
use Rattle.sl_prio.proofs.FirstNamed.{at_one_place, before_later, by_no_name, drawn_by_first}
use Rattle.sl_base_rankings.proofs.Fronts.{HasRatio, le_first}
use Rattle.sl_base_rankings.proofs.Greatest.{AtMost, AtMost-self, greatest-Some}
use Rattle.sl_prio.proofs.Heaps.{top_at_first}
use Rattle.sl_base_rankings.proofs.LotPlaces.{found_first}
use Rattle.sl_base_rankings.proofs.Orders.{entry_order, lot_order}
use Rattle.sl_base_rankings.proofs.PeerLaws.{fits_first, tied}
use Rattle.sl_prio.proofs.PeerMarks.{is_under, only_one, under_has}
use Rattle.sl_prio.proofs.Seen.{seen_first}

then_le : (r s : Ordering) → is_le r ≡ true → is_le s ≡ true → is_le (ordering_then r s) ≡ true
then_le Less s h k = refl
then_le Equal s h k = k
then_le Greater s h k = cc

-- of entries with one quotient, a lot without names draws the greater
top_unnamed : (x y : Entry) → HasRatio x → HasRatio y → has_quotient_of x y ≡ true → AtMost entry_cmp x y → AtMost (lot_cmp []) x y
top_unnamed x y fits_x fits_y same most =
    let equal : quotient_cmp y.ratio x.ratio ≡ Equal = quotient_total.antisymm y.ratio x.ratio ∙ ap ordering_reverse (tied x y fits_x fits_y same) in
    let le : is_le (ordering_then (quotient_cmp y.ratio x.ratio) (nat_cmp x.index y.index)) ≡ true =
    le_first _ (nat_cmp y.ratio.num x.ratio.num) (le_first _ (nat_cmp y.ratio.den x.ratio.den) most) in
    let by_index : is_le (nat_cmp x.index y.index) ≡ true = ap (λ r. is_le (ordering_then r (nat_cmp x.index y.index))) (sym equal) ∙ le in
    ap is_le (at_one_place [] x y refl) ∙ then_le (nat_cmp x.index y.index) (entry_cmp y x) by_index most

module _ (lot : List ℕ) (xs : List Entry) (heap : IsHeap xs) (first : Entry) (at : slice_get xs 0 ≡ Some first) where
  -- what the first name draws is what the lot draws
  pub drawn_whole : (front : List ℕ) (r : ℕ) → front ≡ option_to_list (first_named lot (peers_under first xs 0)) → IsDrawnFrom front xs (peers_under first xs 0) 0 r
      → IsDrawnFrom lot xs (peers_under first xs 0) 0 r
  drawn_whole front r e h =
      let others = peers_under first xs 0 in record {
        within = h.within;
        drawn = λ d.
            let of_first = subst (λ (x : Entry). IsDrawnOf front others x (get_or xs r d)) (get_or_from_slice_get xs 0 first d at) (h.drawn d) in
            let by_first = subst (λ (ns : List ℕ). IsDrawnOf ns others first (get_or xs r d)) e of_first in
            subst (λ (x : Entry). IsDrawnOf lot others x (get_or xs r d)) (sym (get_or_from_slice_get xs 0 first d at))
            (drawn_by_first lot others first (get_or xs r d) (seen_first xs heap first at) by_first);
      }

  -- where a peer stands before which the lot draws no other, it is drawn
  drawn_there : (k : ℕ) → k < length xs → ((d : Entry) → Contains (peers_under first xs 0) (get_or xs k d))
      → ((d z : Entry) → Contains (peers_under first xs 0) z → AtMost (lot_cmp lot) (get_or xs k d) z) → IsDrawnFrom lot xs (peers_under first xs 0) 0 k
  drawn_there k within here most =
      let others = peers_under first xs 0 in record {
        within = within;
        drawn = λ d.
            let y = get_or xs k d in
            subst (λ (x : Entry). IsDrawnOf lot others x y) (sym (get_or_from_slice_get xs 0 first d at)) (record {
              among = Contains-tail first others y (here d);
              most = All-cons (AtMost (lot_cmp lot) y) first others (most d first (seen_first xs heap first at)) (λ i z l. most d (get_or others i z) (Contains-get_or others i z l));
            });
      }

  -- a peer that has the first name alone is drawn
  pub drawn_only : (k : ℕ) → IsFirstNamed lot first xs k → AreApart (peers_under first xs 0) → IsDrawnFrom lot xs (peers_under first xs 0) 0 k
  drawn_only k named apart =
      let others = peers_under first xs 0 in
      drawn_there k named.within (λ d. is_under xs first (get_or xs k d).index k (named.here d) d) (λ d z c.
      let y = get_or xs k d in
      let n = y.index in
      let here = is_under xs first n k (named.here d) d in
      elim (cases_eq z.index n) [
        | inl e ↦
            let same : y ≡ z = only_one (λ x. nat_eq x.index n) others y z (apart n) here c (eq-eqb y.index n refl) (eq-eqb z.index n e) in
            subst (λ (x : Entry). AtMost (lot_cmp lot) y x) same (AtMost-self (lot_cmp lot) (lot_order lot) y)
        | inr other ↦
            let has = any-at (λ x. nat_eq x.index z.index) others z c (eq-eqb z.index z.index refl) in
            before_later lot y z (found_first (have_index others) lot n z.index (named.named d) has other)
      ])

  -- of peers that the lot does not name, the top is drawn
  pub drawn_top : All HasRatio xs → first_named lot (peers_under first xs 0) ≡ None → IsDrawnFrom lot xs (peers_under first xs 0) 0 0
  drawn_top ratios none =
      let is_top : top xs ≡ Some first = sym (top_at_first xs heap) ∙ at in
      let own = seen_first xs heap first at in
      drawn_there 0 (slice_get_within xs 0 first at) (λ d. subst (λ (x : Entry). Contains (peers_under first xs 0) x) (sym (get_or_from_slice_get xs 0 first d at)) own) (λ d z c.
      let there = under_has xs first z c in
      let most = All-at (AtMost entry_cmp first) xs z (greatest-Some entry_cmp entry_order xs first is_top).1 there.0 in
      let alone = top_unnamed first z (fits_first xs ratios first is_top) (All-at HasRatio xs z ratios there.0) there.1 most in
      subst (λ (x : Entry). AtMost (lot_cmp lot) x z) (sym (get_or_from_slice_get xs 0 first d at)) (by_no_name lot (peers_under first xs 0) first own none z c alone))
