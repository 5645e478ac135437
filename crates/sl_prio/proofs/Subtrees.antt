-- The entries at a place of a heap and below it: those from the first place on are all, and none is greater than the one at the place.
use Rattle.std.proofs.Common.{◌≡◌, ℕ, zero, suc, ◌+◌, ◌-◌, ◌*◌, ◌<◌, ◌≤◌, Bool, true, false, cond, List, [], ◌∷◌, ◌++◌, length, get_or, take, take_all, option_to_list, Option, Some, None, slice_get, All, IsPermutation, count_by, refl, sym, ap, subst, ◌∙◌, inl, inr, arith}
use Rattle.std.specs.List.{filter}
use Rattle.std.specs.Ordering.{is_le}
use Rattle.std.proofs.lemmas.Bool.{cases_lt}
use Rattle.std.proofs.lemmas.List.Elements.{All-append, All-cons, All-nil, All-weaker, filter-append}
use Rattle.std.proofs.lemmas.List.Sums.{sum_by-append, length-filter, count_by-le-length}
use Rattle.std.proofs.lemmas.Option.{slice_get_within, slice_get-get_or, get_or_from_slice_get}
use Rattle.sl_base_quotients.specs.declared.entry.Entry.{Entry}
use Rattle.sl_base_quotients.specs.Entry.{entry_cmp}
use Rattle.sl_base_rankings.specs.Peers.{has_quotient_of}
use Rattle.sl_prio.specs.inner.Heap.{IsHeap, IsKept, IsPeerAt, levels, peers_under, subtree}
use Rattle.sl_base_rankings.proofs.Finding.{count_by-cons, All-at, slice_get-Contains}
use Rattle.sl_base_rankings.proofs.Fronts.{HasRatio, none_behind}
use Rattle.sl_base_rankings.proofs.Greatest.{AtMost, AtMost-self, AtMost-trans}
use Rattle.sl_prio.proofs.Heaps.{under_top}
use Rattle.sl_base_rankings.proofs.LawProofs.{same_entries}
use Rattle.sl_base_rankings.proofs.Orders.{entry_order}

-- ---- levels past the last entry

none_past : (xs : List Entry) (p : ℕ) → length xs ≤ p → slice_get xs p ≡ None
none_past [] p l = refl
none_past (x ∷ xs) zero l = absurd (omega arith)
none_past (x ∷ xs) (suc p) l = none_past xs p (omega arith)

past_end : (n : ℕ) (xs : List Entry) (p : ℕ) → length xs ≤ p → levels n xs p ≡ []
past_end zero xs p l = refl
past_end (suc n) xs p l = rw (none_past xs p l, past_end n xs (2 * p + 1) (omega arith), past_end n xs (2 * p + 2) (omega arith)) refl

-- levels enough reach all entries below
enough : (n m : ℕ) (xs : List Entry) (p : ℕ) → length xs ≤ n + p → length xs ≤ m + p → levels n xs p ≡ levels m xs p
enough zero m xs p h k = sym (past_end m xs p (omega arith))
enough (suc n) zero xs p h k = past_end (suc n) xs p (omega arith)
enough (suc n) (suc m) xs p h k =
    let left = enough n m xs (2 * p + 1) (omega arith) (omega arith) in
    let right = enough n m xs (2 * p + 2) (omega arith) (omega arith) in
    λ i. option_to_list (slice_get xs p) ++ (left i ++ right i)

pub subtree_past : (xs : List Entry) (p : ℕ) → length xs ≤ p → subtree xs p ≡ []
subtree_past xs p l = past_end (length xs) xs p l

pub subtree_at : (xs : List Entry) (p : ℕ) (x : Entry) → slice_get xs p ≡ Some x → subtree xs p ≡ x ∷ (subtree xs (2 * p + 1) ++ subtree xs (2 * p + 2))
subtree_at xs p x at =
    let within : p < length xs = slice_get_within xs p x at in
    enough (length xs) (suc (length xs)) xs p (omega arith) (omega arith)
    ∙ ap (λ o. option_to_list o ++ (levels (length xs) xs (2 * p + 1) ++ levels (length xs) xs (2 * p + 2))) at

-- ---- each entry once

module _ (q : Entry → Bool) (xs : List Entry) where
  -- how many of the first b entries pass
  among : ℕ → ℕ
  among b = count_by q (take b xs)

  one_more : (ys : List Entry) (p : ℕ) → count_by q (take (p + 1) ys) ≡ count_by q (take p ys) + count_by q (option_to_list (slice_get ys p))
  one_more [] zero = refl
  one_more [] (suc p) =
      let e : suc p + 1 ≡ suc (p + 1) = omega arith in
      let none : count_by q (take {A = Entry} (suc p + 1) []) ≡ 0 = ap (λ n. count_by q (take {A = Entry} n [])) e in
      none
  one_more (y ∷ ys) zero = let e : 0 + cond (q y) 1 0 ≡ 0 + (0 + cond (q y) 1 0) = omega arith in e
  one_more (y ∷ ys) (suc p) =
      let e : suc p + 1 ≡ suc (p + 1) = omega arith in
      let first = count_by-cons q y (take (p + 1) ys) in
      let other = count_by-cons q y (take p ys) in
      let rest = one_more ys p in
      let up = ap (λ n. count_by q (take n (y ∷ ys))) e in
      omega (arith, first, other, rest, up)

  among_next : (p : ℕ) → among (p + 1) ≡ among p + count_by q (option_to_list (slice_get xs p))
  unfolding among
  among_next p = one_more xs p

  rises : (a k : ℕ) → among a ≤ among (a + k)
  rises a zero = let e : a + zero ≡ a = omega arith in rw e (omega arith)
  rises a (suc k) =
      let e : a + suc k ≡ a + k + 1 = omega arith in
      let up = rises a k in
      let next = among_next (a + k) in
      rw e (omega (arith, up, next))

  all : ℕ
  all = count_by q xs

  whole : (b : ℕ) → length xs ≤ b → among b ≡ all
  unfolding among all
  whole b l = ap (count_by q) (take_all b xs l)

  up_to_all : (b : ℕ) → among b ≤ all
  up_to_all b = let up = rises b (length xs) in let e = whole (b + length xs) (omega arith) in omega (arith, up, e)

  -- of the places p, 2p + 1, 4p + 3 and so on, how many of the entries before each pass, together
  before : ℕ → ℕ → ℕ
  before zero p = 0
  before (suc n) p = among p + before n (2 * p + 1)

  count_append : (ys zs : List Entry) → count_by q (ys ++ zs) ≡ count_by q ys + count_by q zs
  count_append ys zs = sum_by-append (λ y. cond (q y) 1 0) ys zs

  counted : (n p : ℕ) → count_by q (levels n xs p) + before n p ≡ before n (p + 1)
  unfolding before
  counted zero p = omega arith
  counted (suc n) p =
      let left = counted n (2 * p + 1) in
      let right = counted n (2 * p + 2) in
      let e : 2 * p + 1 + 1 ≡ 2 * p + 2 = omega arith in
      let f : 2 * p + 2 + 1 ≡ 2 * (p + 1) + 1 = omega arith in
      let left' = subst (λ k. count_by q (levels n xs (2 * p + 1)) + before n (2 * p + 1) ≡ before n k) e left in
      let right' = subst (λ k. count_by q (levels n xs (2 * p + 2)) + before n (2 * p + 2) ≡ before n k) f right in
      let here = among_next p in
      let one = count_append (option_to_list (slice_get xs p)) (levels n xs (2 * p + 1) ++ levels n xs (2 * p + 2)) in
      let two = count_append (levels n xs (2 * p + 1)) (levels n xs (2 * p + 2)) in
      omega (arith, left', right', here, one, two)

  reach : ℕ → ℕ → ℕ
  reach zero p = p
  reach (suc n) p = reach n (2 * p + 1)

  reaches : (n p : ℕ) → n + p ≤ reach n p
  unfolding reach
  reaches zero p = omega arith
  reaches (suc n) p = let far = reaches n (2 * p + 1) in omega (arith, far)

  from_last : (n p : ℕ) → before (suc n) p ≡ before n p + among (reach n p)
  unfolding before reach
  from_last zero p = omega arith
  from_last (suc n) p = let rest = from_last n (2 * p + 1) in omega (arith, rest)

  none_before : among 0 ≡ 0
  unfolding among
  none_before = refl

  pub counted_once : count_by q (subtree xs 0) ≡ count_by q xs
  unfolding all before
  counted_once =
      let n = length xs in
      let sum = counted n 0 in
      let last = from_last n 0 in
      let far = reaches n 0 in
      let end = whole (reach n 0) (omega (arith, far)) in
      let none = none_before in
      omega (arith, sum, last, end, none)

  apart : (n p k : ℕ) → p ≤ k → k ≤ 2 * p + 1 → before n k + among p ≤ before n p + all
  unfolding before
  apart zero p k l h = let up = up_to_all p in omega (arith, up)
  apart (suc n) p k l h =
      let deeper = apart n (2 * p + 1) (2 * k + 1) (omega arith) (omega arith) in
      let e : k + (2 * p + 1 - k) ≡ 2 * p + 1 = omega arith in
      let up = subst (λ b. among k ≤ among b) e (rises k (2 * p + 1 - k)) in
      omega (arith, deeper, up)

  pub counted_at_most : (p : ℕ) → count_by q (subtree xs p) ≤ count_by q xs
  unfolding all
  counted_at_most p =
      let sum = counted (length xs) p in
      let most = apart (length xs) p (p + 1) (omega arith) (omega arith) in
      omega (arith, sum, most)

pub subtree_permutation : (xs : List Entry) → IsPermutation xs (subtree xs 0)
subtree_permutation xs = same_entries xs (subtree xs 0) (λ q. sym (counted_once q xs))

-- ---- what is below an entry

module _ (P : Entry → Type 0) (xs : List Entry) (every : All P xs) where
  pub all_levels : (n p : ℕ) → All P (levels n xs p)
  all_levels zero p = All-nil P
  all_levels (suc n) p =
      let deeper = All-append P (levels n xs (2 * p + 1)) (levels n xs (2 * p + 2)) (all_levels n (2 * p + 1)) (all_levels n (2 * p + 2)) in
      All-append P (option_to_list (slice_get xs p)) (levels n xs (2 * p + 1) ++ levels n xs (2 * p + 2)) (here (slice_get xs p) refl) deeper
    where
      here : (o : Option Entry) → slice_get xs p ≡ o → All P (option_to_list o)
      here None e = All-nil P
      here (Some x) e = All-cons P x [] (All-at P xs x every (slice_get-Contains xs p x e)) (All-nil P)

module _ (xs : List Entry) (heap : IsHeap xs) where
  under_child : (n p k : ℕ) (x : Entry) → slice_get xs p ≡ Some x → p * 2 + 1 ≤ k → k ≤ p * 2 + 2
      → ((y : Entry) → slice_get xs k ≡ Some y → All (AtMost entry_cmp y) (levels n xs k)) → All (AtMost entry_cmp x) (levels n xs k)
  under_child n p k x at a b deeper =
      elim (cases_lt k (length xs)) [
        | inl l ↦
            let y = get_or xs k x in
            let le : is_le (entry_cmp y x) ≡ true = subst (λ z. is_le (entry_cmp y z) ≡ true) (get_or_from_slice_get xs p x x at) (heap p k a b l x) in
            All-weaker (AtMost entry_cmp y) (AtMost entry_cmp x) (λ z h. AtMost-trans entry_cmp entry_order z y x h le) (levels n xs k) (deeper y (slice_get-get_or xs k x l))
        | inr g ↦ rw (past_end n xs k g) (All-nil (AtMost entry_cmp x))
      ]

  pub under_entry : (n p : ℕ) (x : Entry) → slice_get xs p ≡ Some x → All (AtMost entry_cmp x) (levels n xs p)
  under_entry zero p x at = All-nil (AtMost entry_cmp x)
  under_entry (suc n) p x at =
      let left = levels n xs (2 * p + 1) in
      let right = levels n xs (2 * p + 2) in
      let all_left = under_child n p (2 * p + 1) x at (omega arith) (omega arith) (λ y h. under_entry n (2 * p + 1) y h) in
      let all_right = under_child n p (2 * p + 2) x at (omega arith) (omega arith) (λ y h. under_entry n (2 * p + 2) y h) in
      subst (λ o. All (AtMost entry_cmp x) (option_to_list o ++ (left ++ right))) (sym at)
      (All-cons (AtMost entry_cmp x) x (left ++ right) (AtMost-self entry_cmp entry_order x) (All-append (AtMost entry_cmp x) left right all_left all_right))

-- ---- the peers below an entry

module _ (first : Entry) (xs : List Entry) (kept : IsKept xs) (top : slice_get xs 0 ≡ Some first) where
  fits_first : HasRatio first
  fits_first = All-at HasRatio xs first kept.ratios (slice_get-Contains xs 0 first top)

  pub no_peers_past : (p : ℕ) → length xs ≤ p → peers_under first xs p ≡ []
  no_peers_past p l = ap (filter (has_quotient_of first)) (subtree_past xs p l)

  module _ (p : ℕ) (x : Entry) (at : slice_get xs p ≡ Some x) where
    pub no_peers_at : has_quotient_of first x ≡ false → peers_under first xs p ≡ []
    no_peers_at other =
        let here = slice_get-Contains xs p x at in
        let within : p < length xs = slice_get_within xs p x at in
        let low : is_le (entry_cmp x first) ≡ true =
        (λ i. is_le (entry_cmp (sym (get_or_from_slice_get xs p x first at) i) (sym (get_or_from_slice_get xs 0 first first top) i))) ∙ under_top xs p p kept.heap (omega arith) within first in
        none_behind first fits_first x (subtree xs p) (All-at HasRatio xs x kept.ratios here) low other (all_levels HasRatio xs kept.ratios (length xs) p) (under_entry xs kept.heap (length xs) p x at)

    pub peers_at : has_quotient_of first x ≡ true → IsPeerAt first xs p x
    peers_at peer = record {
      within = slice_get_within xs p x at;
      here = at;
      peers =
          let left = subtree xs (2 * p + 1) in
          let right = subtree xs (2 * p + 2) in
          ap (filter (has_quotient_of first)) (subtree_at xs p x at) ∙ rw (peer, filter-append (has_quotient_of first) left right) refl;
    }

pub peers_bounded : (first : Entry) (xs : List Entry) (p : ℕ) → length (peers_under first xs p) ≤ length xs
peers_bounded first xs p =
    let e = length-filter (has_quotient_of first) (subtree xs p) in
    let most = counted_at_most (has_quotient_of first) xs p in
    let all = count_by-le-length (has_quotient_of first) xs in
    omega (arith, e, most, all)
