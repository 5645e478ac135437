-- What the peers below the first place say of a table.
use Rattle.std.proofs.Common.{◌≡◌, ℕ, Bool, List, [], ◌∷◌, ◌++◌, Option, None, MatchOption, is_some, false, count_by, length, slice_get, Some, Contains, sym, ap, subst, ◌∙◌, inl, inr}
use Rattle.std.specs.List.{list_any}
use Rattle.std.specs.Prelude.{nat_eq}
use Rattle.std.proofs.lemmas.Bool.{true≢false}
use Rattle.std.proofs.lemmas.List.Elements.{All-tail}
use Rattle.std.proofs.lemmas.List.Sorted.{Contains-permutation, IsPermutation-sym}
use Rattle.sl_base_quotients.specs.declared.entry.Entry.{Entry}
use Rattle.sl_base_rankings.specs.Ranking.{ranked}
use Rattle.sl_base_rankings.specs.Peers.{top, peers, is_covered}
use Rattle.sl_base_rankings.specs.Lot.{drawn, lot_cmp}
use Rattle.sl_base_rankings.specs.Laws.{AnswersAlike}
use Rattle.sl_prio.specs.inner.Heap.{IsHeap, IsKept, IsPeerAt, IsDrawnOf, are_named, peers_under, subtree}
use Rattle.sl_base_rankings.proofs.Finding.{Contains-cases}
use Rattle.sl_base_rankings.proofs.Greatest.{AtMost}
use Rattle.sl_prio.proofs.Heaps.{top_at_first}
use Rattle.sl_base_rankings.proofs.LawProofs.{order_is_free}
use Rattle.sl_base_rankings.proofs.Rankings.{counts_alike, ranked-permutation}
use Rattle.sl_prio.proofs.Subtrees.{subtree_permutation, peers_at}
use Rattle.sl_base_rankings.proofs.Tables.{has_own_quotient, peers-at_top, peers-length, peers-list_all, top-peer, drawn-is}

unless_some : (P : Type 0) (Q : Entry → Type 0) (o : Option Entry) → MatchOption o P Q → is_some o ≡ false → P
unless_some P Q None h none = h
unless_some P Q (Some x) h none = absurd (true≢false none)

module _ (xs : List Entry) (heap : IsHeap xs) (first : Entry) (at : slice_get xs 0 ≡ Some first) where
  same : AnswersAlike xs (subtree xs 0)
  same = order_is_free xs (subtree xs 0) (subtree_permutation xs)

  first_is : top (subtree xs 0) ≡ Some first
  first_is = sym same.same_top ∙ sym (top_at_first xs heap) ∙ at

  pub seen_length : length (peers_under first xs 0) ≡ length (peers xs)
  seen_length = peers-length (subtree xs 0) first first_is ∙ ap length (sym same.same_peers)

  -- there is one where none stands at a child of the first place
  pub seen_alone : IsKept xs → (left right : Option Entry) → MatchOption left (peers_under first xs 1 ≡ []) (IsPeerAt first xs 1) →
      MatchOption right (peers_under first xs 2 ≡ []) (IsPeerAt first xs 2) → is_some left ≡ false → is_some right ≡ false → length (peers xs) ≡ 1
  seen_alone kept left right of_left of_right no_left no_right =
      let none_left : peers_under first xs 1 ≡ [] = unless_some (peers_under first xs 1 ≡ []) (IsPeerAt first xs 1) left of_left no_left in
      let none_right : peers_under first xs 2 ≡ [] = unless_some (peers_under first xs 2 ≡ []) (IsPeerAt first xs 2) right of_right no_right in
      let all : peers_under first xs 0 ≡ first ∷ (peers_under first xs 1 ++ peers_under first xs 2) = (peers_at first xs kept at 0 first at (has_own_quotient first)).peers in
      sym seen_length ∙ ap length all ∙ (λ i. length (first ∷ (none_left i ++ none_right i)))

  pub seen_named : (lot : List ℕ) → are_named lot (peers_under first xs 0) ≡ is_covered lot xs
  seen_named lot = peers-list_all (subtree xs 0) first first_is (λ peer. list_any (λ named. nat_eq named peer.index) lot) ∙ sym (same.same_covers lot)

  -- the first is among its peers
  pub seen_first : Contains (peers_under first xs 0) first
  seen_first = top-peer (subtree xs 0) first first_is

  -- the peers below the first place are those of the table
  pub seen_peer : (x : Entry) → Contains (peers_under first xs 0) x → Contains (peers xs) x
  seen_peer x c =
      let under = peers_under first xs 0 in
      subst (λ (ps : List Entry). Contains ps x) (sym (same.same_peers ∙ peers-at_top (subtree xs 0) first first_is)) (Contains-permutation under (ranked under) x (ranked-permutation under) c)

  pub seen_under : (x : Entry) → Contains (peers xs) x → Contains (peers_under first xs 0) x
  seen_under x c =
      let under = peers_under first xs 0 in
      Contains-permutation (ranked under) under x (IsPermutation-sym under (ranked under) (ranked-permutation under))
      (subst (λ (ps : List Entry). Contains ps x) (same.same_peers ∙ peers-at_top (subtree xs 0) first first_is) c)

  pub seen_counts : (p : Entry → Bool) → count_by p (peers_under first xs 0) ≡ count_by p (peers xs)
  seen_counts p =
      let under = peers_under first xs 0 in
      counts_alike under (ranked under) (ranked-permutation under) p ∙ ap (count_by p) (sym (same.same_peers ∙ peers-at_top (subtree xs 0) first first_is))

  -- what a lot draws is one of them
  pub seen_among : (lot : List ℕ) (x : Entry) → IsDrawnOf lot (peers_under first xs 0) first x → Contains (peers xs) x
  seen_among lot x h = elim (Contains-cases first (peers_under first xs 0) x h.among) [
    | inl e ↦ subst (λ (z : Entry). Contains (peers xs) z) e (seen_peer first seen_first)
    | inr c ↦ seen_peer x c
  ]

  pub seen_drawn : (lot : List ℕ) (x : Entry) → IsDrawnOf lot (peers_under first xs 0) first x → drawn lot xs ≡ Some x
  seen_drawn lot x h =
      let here : Contains (peers_under first xs 0) x = elim (Contains-cases first (peers_under first xs 0) x h.among) [
        | inl e ↦ subst (λ (z : Entry). Contains (peers_under first xs 0) z) e seen_first
        | inr c ↦ c
      ] in
      same.same_drawn lot ∙ drawn-is (subtree xs 0) first first_is lot x here (All-tail (AtMost (lot_cmp lot) x) first (peers_under first xs 0) h.most)
