-- How many peers there are with one entry more, and with one of them less.
use Rattle.std.proofs.Common.{◌≡◌, ◌&&◌, nat_eq, IsTrue, inl, inr, ℕ, ◌+◌, ◌*◌, ◌<◌, ◌≤◌, Bool, true, false, cond, List, [], ◌∷◌, length, get_or, Option, Some, None, Contains, All, IsPermutation, slice_get, count_by, refl, sym, ap, subst, ◌∙◌, arith}
use Rattle.std.specs.Cmp.{nat_cmp_total, tied_itself}
use Rattle.std.specs.List.{filter}
use Rattle.std.specs.Option.{option_map_or}
use Rattle.std.specs.declared.cmp.Ordering.TheVariants.{Less, Equal, Greater}
use Rattle.std.specs.Ordering.{nat_cmp, is_le, is_eq, ordering_reverse, ordering_then}
use Rattle.std.proofs.lemmas.Bool.{and_from, and_parts, cases_Bool, eqb-true, false_from_ne_true, true≢false}
use Rattle.std.proofs.lemmas.Cmp.{upto}
use Rattle.std.proofs.lemmas.List.Elements.{All-cons, All-tail, Contains-get_or}
use Rattle.std.proofs.lemmas.List.Sorted.{All-permutation, Contains-permutation, IsPermutation-sym}
use Rattle.std.proofs.lemmas.List.Sums.{count_by-le-length, length-filter}
use Rattle.sl_base_quotients.specs.declared.entry.Entry.{Entry}
use Rattle.sl_base_quotients.specs.Quotient.{compare}
use Rattle.sl_base_quotients.specs.Entry.{entry_cmp, quotient_cmp}
use Rattle.sl_base_quotients.specs.inner.EntryLaws.{quotient_total, quotient_cmp-positive}
use Rattle.sl_base_rankings.specs.Peers.{top, peers, has_quotient_of}
use Rattle.sl_base_rankings.specs.Ranking.{ranked}
use Rattle.sl_prio.specs.inner.Heap.{AreCounted, IsHeap, IsNewPeer}
use Rattle.sl_prio.specs.inner.Marks.{AreApart, HaveMarks, have_index}
use Rattle.sl_base_rankings.proofs.Finding.{All-at, Contains-cases, Contains-filter, Contains-head, Contains-none, Contains-tail, count_by-cons, count_by-filter, count_by-no, count_by-none, count_by-yes, counted, slice_get-Contains}
use Rattle.sl_prio.proofs.Heaps.{top_first}
use Rattle.sl_base_rankings.proofs.LawProofs.{first_peers}
use Rattle.sl_base_rankings.proofs.Fronts.{HasRatio}
use Rattle.sl_base_rankings.proofs.Greatest.{AtMost, both_le, greatest-is, greatest-None, greatest-Some, le_not_gt, not_gt}
use Rattle.sl_base_rankings.proofs.Orders.{entry_order}
use Rattle.sl_base_rankings.proofs.PeerLaws.{fits_first, has_top_quotient, peers_are_greatest, tied, up_to_top}
use Rattle.sl_prio.proofs.Marks.{none_has}
use Rattle.sl_prio.proofs.PeerMarks.{fresh_index}
use Rattle.sl_base_rankings.proofs.Rankings.{counts_alike, ranked-permutation}
use Rattle.sl_base_rankings.proofs.Tables.{has_own_quotient, peers-at_top, peers-length, top-Contains}

-- ---- counts by a test, and quotients

count_alike : (p q : Entry → Bool) (xs : List Entry) → ((y : Entry) → Contains xs y → p y ≡ q y) → count_by p xs ≡ count_by q xs
count_alike p q [] same = refl
count_alike p q (x ∷ xs) same =
    let one = count_by-cons p x xs in
    let two = count_by-cons q x xs in
    let here = ap (λ (b : Bool). cond {A = ℕ} b 1 0) (same x (Contains-head x xs)) in
    let rest = count_alike p q xs (λ y c. same y (Contains-tail x xs y c)) in
    omega (arith, one, two, here, rest)

count_up_to : (p q : Entry → Bool) (xs : List Entry) → ((y : Entry) → Contains xs y → p y ≡ true → q y ≡ true) → count_by p xs ≤ count_by q xs
count_up_to p q [] passes = omega arith
count_up_to p q (x ∷ xs) passes =
    let rest = count_up_to p q xs (λ y c. passes y (Contains-tail x xs y c)) in
    elim (cases_Bool (p x)) [
      | inl t ↦
          let one = count_by-yes p x xs t in
          let other = count_by-yes q x xs (passes x (Contains-head x xs) t) in
          omega (arith, one, other, rest)
      | inr f ↦
          let none = count_by-no p x xs f in
          let other = count_by-cons q x xs in
          omega (arith, none, other, rest)
    ]

at_most_right : (a b : Bool) → cond {A = ℕ} (a && b) 1 0 ≤ cond b 1 0
at_most_right true b = omega arith
at_most_right false b = omega arith

-- the peers that pass, counted among all entries
peers_counted : (xs : List Entry) (first : Entry) → top xs ≡ Some first → (p : Entry → Bool) → count_by p (peers xs) ≡ count_by (λ x. has_quotient_of first x && p x) xs
peers_counted xs first is_top p =
    let listed = filter (has_quotient_of first) xs in
    ap (count_by p) (peers-at_top xs first is_top) ∙ sym (counts_alike listed (ranked listed) (ranked-permutation listed) p) ∙ count_by-filter (has_quotient_of first) p xs

-- an entry with the quotient of the top is a peer
peer_by : (xs : List Entry) (first : Entry) → top xs ≡ Some first → (x : Entry) → Contains xs x → has_quotient_of first x ≡ true → Contains (peers xs) x
peer_by xs first is_top x c t =
    let listed = filter (has_quotient_of first) xs in
    subst (λ (ps : List Entry). Contains ps x) (sym (peers-at_top xs first is_top))
    (Contains-permutation listed (ranked listed) x (ranked-permutation listed) (Contains-filter (has_quotient_of first) xs x c t))

-- x has no greater quotient than y
abbrev pub UpTo : Entry → Entry → Type 0
UpTo y x = is_le (quotient_cmp x.ratio y.ratio) ≡ true

upto_chain : (x y z : Entry) → UpTo y x → UpTo z y → UpTo z x
upto_chain x y z h k = le_not_gt (quotient_cmp x.ratio z.ratio) (upto quotient_total x.ratio y.ratio z.ratio (not_gt (quotient_cmp x.ratio y.ratio) h) (not_gt (quotient_cmp y.ratio z.ratio) k))

upto_itself : (x : Entry) → UpTo x x
upto_itself x = ap is_le (tied_itself quotient_total x.ratio)

-- what has the quotient of one of two entries with one quotient has that of the other
peers_alike : (x y z : Entry) → HasRatio x → HasRatio y → HasRatio z → quotient_cmp x.ratio y.ratio ≡ Equal → has_quotient_of x z ≡ has_quotient_of y z
peers_alike x y z fits_x fits_y fits_z same =
    ap is_eq
    (sym (quotient_cmp-positive x.ratio z.ratio fits_x.positive fits_z.positive) ∙ quotient_total.congr x.ratio y.ratio z.ratio same ∙ quotient_cmp-positive y.ratio z.ratio fits_y.positive fits_z.positive)

-- ---- peers counted by an entry that none exceeds

has_top : (xs : List Entry) (x : Entry) → Contains xs x → (first : Entry) × (top xs ≡ Some first)
has_top xs x c = by_top (top xs) refl
  where
    by_top : (o : Option Entry) → top xs ≡ o → (first : Entry) × (top xs ≡ Some first)
    by_top (Some first) e = (first, e)
    by_top None e = absurd (Contains-none x (subst (λ (ys : List Entry). Contains ys x) (greatest-None entry_cmp entry_order xs e) c))

-- the quotient of m, which one of the entries has and none exceeds, is that of the top
module _ (xs : List Entry) (ratios : All HasRatio xs) (m : Entry) (fits : HasRatio m) (most : All (UpTo m) xs) (x : Entry) (here : Contains xs x) (peer : has_quotient_of m x ≡ true) where
  of_top : (first : Entry) → top xs ≡ Some first → quotient_cmp first.ratio m.ratio ≡ Equal
  of_top first is_top =
      let one = tied m x fits (All-at HasRatio xs x ratios here) peer in
      let low = All-at (UpTo m) xs first most (top-Contains xs first is_top) in
      let high = ap is_le (quotient_total.congr m.ratio x.ratio first.ratio one) ∙ up_to_top xs ratios first is_top x here in
      both_le (quotient_cmp first.ratio m.ratio) (quotient_cmp m.ratio first.ratio) (quotient_total.antisymm first.ratio m.ratio) low high

  by_top : (first : Entry) → top xs ≡ Some first → length (peers xs) ≡ count_by (has_quotient_of m) xs
  by_top first is_top =
      sym (peers-length xs first is_top) ∙ length-filter (has_quotient_of first) xs ∙
      count_alike (has_quotient_of first) (has_quotient_of m) xs
      (λ y c. peers_alike first m y (fits_first xs ratios first is_top) fits (All-at HasRatio xs y ratios c) (of_top first is_top))

  counted_by : length (peers xs) ≡ count_by (has_quotient_of m) xs
  counted_by = let first = has_top xs x here in by_top first.0 first.1

-- ---- the others with one entry more

module _ (xs : List Entry) (ratios : All HasRatio xs) (entry : Entry) (fits : HasRatio entry) where
  held_peer : (y : Entry) → Contains (peers (entry ∷ xs)) y → Contains (entry ∷ xs) y × All (λ other. IsTrue (is_le (compare other.ratio y.ratio))) (entry ∷ xs)
  held_peer y = (peers_are_greatest (entry ∷ xs) (All-cons HasRatio entry xs fits ratios) y).0

  old_peer : (y : Entry) → Contains (peers (entry ∷ xs)) y → Contains xs y → Contains (peers xs) y
  old_peer y c there = (peers_are_greatest xs ratios y).1 (there, All-tail (λ other. IsTrue (is_le (compare other.ratio y.ratio))) entry xs (held_peer y c).1)

  old_or_new : (y : Entry) → Contains (peers (entry ∷ xs)) y → Contains (entry ∷ peers xs) y
  old_or_new y c = elim (Contains-cases entry xs y (held_peer y c).0) [
    | inl e ↦ subst (λ (z : Entry). Contains (entry ∷ peers xs) z) e (Contains-head entry (peers xs))
    | inr there ↦ Contains-tail entry (peers xs) y (old_peer y c there)
  ]

  module _ (p : Entry → Bool) where
    old_counted : (m : Entry) → top (entry ∷ xs) ≡ Some m → (o : Option Entry) → top xs ≡ o → count_by (λ x. has_quotient_of m x && p x) xs ≤ count_by p (peers xs)
    old_counted m is_top None none =
        let empty : xs ≡ [] = greatest-None entry_cmp entry_order xs none in
        let e : count_by (λ x. has_quotient_of m x && p x) xs ≡ 0 = ap (count_by (λ x. has_quotient_of m x && p x)) empty in
        omega (arith, e)
    old_counted m is_top (Some first) is_first =
        let all = peers_counted xs first is_first p in
        let up = count_up_to (λ x. has_quotient_of m x && p x) (λ x. has_quotient_of first x && p x) xs (λ y c t.
        let parts = and_parts (has_quotient_of m y) (p y) t in
        let now = peer_by (entry ∷ xs) m is_top y (Contains-tail entry xs y c) parts.0 in
        and_from (has_quotient_of first y) (p y) (has_top_quotient xs ratios first is_first y (old_peer y now c)).1 parts.1) in
        omega (arith, all, up)

    -- of those that pass there is one more at most
    joined_count : count_by p (peers (entry ∷ xs)) ≤ count_by p (entry ∷ peers xs)
    joined_count =
        let m = has_top (entry ∷ xs) entry (Contains-head entry xs) in
        let all = peers_counted (entry ∷ xs) m.0 m.1 p in
        let split = count_by-cons (λ x. has_quotient_of m.0 x && p x) entry xs in
        let here = at_most_right (has_quotient_of m.0 entry) (p entry) in
        let rest = old_counted m.0 m.1 (top xs) refl in
        let new = count_by-cons p entry (peers xs) in
        omega (arith, all, split, here, rest, new)

  module _ (zs : List Entry) (n : ℕ) (h : IsNewPeer xs entry n) (same : peers (entry ∷ xs) ≡ peers zs) (count : ℕ) (marked : Bool) (old : List Bool)
      (held : AreCounted (peers xs) count marked old) where
    apart_beside : IsTrue marked → slice_get old entry.index ≡ Some false → AreApart (peers (entry ∷ xs))
    apart_beside before fresh = λ index.
        let joined = joined_count (λ x. nat_eq x.index index) in
        let split = count_by-cons (λ x. nat_eq x.index index) entry (peers xs) in
        elim (cases_Bool (nat_eq entry.index index)) [
          | inl t ↦
              let none = none_has (peers xs) index
              (subst (λ k. have_index (peers xs) k ≡ false) (eqb-true entry.index index t) (fresh_index (peers xs) old entry.index (held.indexes before) fresh)) in
              let here = count_by-yes (λ x. nat_eq x.index index) entry (peers xs) t in
              omega (arith, joined, here, none)
          | inr f ↦
              let here = count_by-no (λ x. nat_eq x.index index) entry (peers xs) f in
              let rest = held.apart before index in
              omega (arith, joined, here, rest)
        ]

    -- what is counted with the new one, which is marked only beside others that are
    pub joined_counted : (m : ℕ) (after : Bool) (new : List Bool) → m ≡ n → (IsTrue after → IsTrue marked × (slice_get old entry.index ≡ Some false))
        → (IsTrue after → (ys : List Entry) (x : Entry) → x.index ≡ entry.index → HaveMarks ys old → HaveMarks (x ∷ ys) new) → AreCounted (peers zs) m after new
    joined_counted m after new is_n fresh kept = subst (λ (ps : List Entry). AreCounted ps m after new) same (record {
      counted = is_n ∙ h.count;
      apart = λ t. apart_beside (fresh t).0 (fresh t).1;
      indexes = λ t y c. kept t (peers xs) entry refl (held.indexes (fresh t).0) y (old_or_new y c);
    })

module _ (xs : List Entry) (ratios : All HasRatio xs) (first : Entry) (is_top : top xs ≡ Some first) where
  up : All (UpTo first) xs
  up = λ k d l. up_to_top xs ratios first is_top (get_or xs k d) (Contains-get_or xs k d l)

  counted_now : length (peers xs) ≡ count_by (has_quotient_of first) xs
  counted_now = sym (peers-length xs first is_top) ∙ length-filter (has_quotient_of first) xs

  -- ---- one entry more

  module _ (entry : Entry) (fits : HasRatio entry) where
    here : Contains xs first
    here = top-Contains xs first is_top

    all_fit : All HasRatio (entry ∷ xs)
    all_fit = All-cons HasRatio entry xs fits ratios

    -- the order of the entry and the top, each way
    order : quotient_cmp entry.ratio first.ratio ≡ compare entry.ratio first.ratio
    order = quotient_cmp-positive entry.ratio first.ratio fits.positive (fits_first xs ratios first is_top).positive

    back : compare first.ratio entry.ratio ≡ ordering_reverse (compare entry.ratio first.ratio)
    back = nat_cmp_total.antisymm (first.ratio.num * entry.ratio.den) (entry.ratio.num * first.ratio.den)

    counted_with : is_le (compare entry.ratio first.ratio) ≡ true → length (peers (entry ∷ xs)) ≡ count_by (has_quotient_of first) (entry ∷ xs)
    counted_with low =
        let most = All-cons (UpTo first) entry xs (ap is_le order ∙ low) up in
        counted_by (entry ∷ xs) all_fit first (fits_first xs ratios first is_top) most first (Contains-tail entry xs first here) (has_own_quotient first)

    pub one_alike : compare entry.ratio first.ratio ≡ Equal → length (peers (entry ∷ xs)) ≡ length (peers xs) + 1
    one_alike equal =
        let same : has_quotient_of first entry ≡ true = ap is_eq (back ∙ ap ordering_reverse equal) in
        let all = counted_with (ap is_le equal) in
        let rest = count_by-yes (has_quotient_of first) entry xs same in
        let before = counted_now in
        omega (arith, all, rest, before)

    -- none of the others has the quotient of an entry that is greater than the top
    alone : compare entry.ratio first.ratio ≡ Greater → (y : Entry) → Contains xs y → has_quotient_of entry y ≡ true → ⊥
    alone greater y c t =
        let one = tied entry y fits (All-at HasRatio xs y ratios c) t in
        let high = up_to_top xs ratios first is_top y c in
        let refuted : true ≡ false = sym high ∙ ap is_le (sym (quotient_total.congr entry.ratio y.ratio first.ratio one) ∙ order ∙ greater) in
        true≢false refuted

    pub one_greater : compare entry.ratio first.ratio ≡ Greater → length (peers (entry ∷ xs)) ≡ 1
    one_greater greater =
        let low : UpTo entry first =
        ap is_le (quotient_cmp-positive first.ratio entry.ratio (fits_first xs ratios first is_top).positive fits.positive ∙ back ∙ ap ordering_reverse greater) in
        let most = All-cons (UpTo entry) entry xs (upto_itself entry) (λ k d l. upto_chain (get_or xs k d) first entry (up k d l) low) in
        let none = count_by-none (has_quotient_of entry) xs (λ y c. false_from_ne_true (has_quotient_of entry y) (alone greater y c)) in
        let all = counted_by (entry ∷ xs) all_fit entry fits most entry (Contains-head entry xs) (has_own_quotient entry) in
        let rest = count_by-yes (has_quotient_of entry) entry xs (has_own_quotient entry) in
        omega (arith, all, rest, none)

    -- with an entry that is smaller than the top the peers are the same
    pub passed : compare entry.ratio first.ratio ≡ Less → peers (entry ∷ xs) ≡ peers xs
    passed less =
        let other : has_quotient_of first entry ≡ false = ap is_eq (back ∙ ap ordering_reverse less) in
        let low : AtMost entry_cmp first entry =
        ap (λ r. is_le (ordering_then (ordering_then (ordering_then r (nat_cmp first.index entry.index)) (nat_cmp entry.ratio.num first.ratio.num)) (nat_cmp entry.ratio.den first.ratio.den))) (order ∙ less) in
        let most = All-cons (AtMost entry_cmp first) entry xs low (greatest-Some entry_cmp entry_order xs first is_top).1 in
        let still : top (entry ∷ xs) ≡ Some first = greatest-is entry_cmp entry_order (entry ∷ xs) first (Contains-tail entry xs first here) most in
        peers-at_top (entry ∷ xs) first still ∙ rw other (sym (peers-at_top xs first is_top))

    newest : is_le (compare first.ratio entry.ratio) ≡ true → Contains (peers (entry ∷ xs)) entry
    newest low =
        let low_first : UpTo entry first = ap is_le (quotient_cmp-positive first.ratio entry.ratio (fits_first xs ratios first is_top).positive fits.positive) ∙ low in
        let itself = ap is_le (tied_itself nat_cmp_total (entry.ratio.num * entry.ratio.den)) in
        let others : All (λ other. IsTrue (is_le (compare other.ratio entry.ratio))) xs = λ k d l.
        let z = get_or xs k d in
        ap is_le (sym (quotient_cmp-positive z.ratio entry.ratio (All-at HasRatio xs z ratios (Contains-get_or xs k d l)).positive fits.positive)) ∙ upto_chain z first entry (up k d l) low_first in
        (peers_are_greatest (entry ∷ xs) all_fit entry).1 (Contains-head entry xs, All-cons (λ other. IsTrue (is_le (compare other.ratio entry.ratio))) entry xs itself others)

    pub new_alike : compare entry.ratio first.ratio ≡ Equal → (n : ℕ) → n ≡ length (peers xs) → IsNewPeer xs entry (n + 1)
    new_alike equal n e = record { count = ap (λ k. k + 1) e ∙ sym (one_alike equal); here = newest (ap is_le (back ∙ ap ordering_reverse equal)) }

    pub new_greater : compare entry.ratio first.ratio ≡ Greater → IsNewPeer xs entry 1
    new_greater greater = record { count = sym (one_greater greater); here = newest (ap is_le (back ∙ ap ordering_reverse greater)) }

  -- ---- one peer less

  module _ (x : Entry) (ys : List Entry) (peer : Contains (peers xs) x) (taken : IsPermutation xs (x ∷ ys)) (several : 1 < length (peers xs)) where
    rest : All HasRatio ys
    rest = All-tail HasRatio x ys (All-permutation HasRatio xs (x ∷ ys) taken ratios)

    -- one that is left
    other : (z : Entry) × Contains ys z × (has_quotient_of first z ≡ true)
    other =
        let before = counted_now in
        let same = counts_alike xs (x ∷ ys) taken (has_quotient_of first) in
        let split = count_by-yes (has_quotient_of first) x ys (has_top_quotient xs ratios first is_top x peer).1 in
        counted (has_quotient_of first) ys (omega (arith, several, before, same, split))

    less_than_before : length (peers xs) ≡ length (peers ys) + 1
    less_than_before =
        let before = counted_now in
        let same = counts_alike xs (x ∷ ys) taken (has_quotient_of first) in
        let split = count_by-yes (has_quotient_of first) x ys (has_top_quotient xs ratios first is_top x peer).1 in
        let most = All-tail (UpTo first) x ys (All-permutation (UpTo first) xs (x ∷ ys) taken up) in
        let after = counted_by ys rest first (fits_first xs ratios first is_top) most other.0 other.1 other.2 in
        omega (arith, before, same, split, after)

    -- those that are left were peers before
    left_peer : (y : Entry) → Contains (peers ys) y → Contains (peers xs) y
    left_peer y c =
        let held = (peers_are_greatest ys rest y).0 c in
        let fits_y = All-at HasRatio ys y rest held.0 in
        let fits_w = All-at HasRatio ys other.0 rest other.1 in
        let low = All-at (λ z. IsTrue (is_le (compare z.ratio y.ratio))) ys other.0 held.1 other.1 in
        let from_w : UpTo y other.0 = ap is_le (quotient_cmp-positive other.0.ratio y.ratio fits_w.positive fits_y.positive) ∙ low in
        let to_w : UpTo other.0 first = ap is_le (tied first other.0 (fits_first xs ratios first is_top) fits_w other.2) in
        let there = Contains-permutation (x ∷ ys) xs y (IsPermutation-sym xs (x ∷ ys) taken) (Contains-tail x ys y held.0) in
        (peers_are_greatest xs ratios y).1 (
          there,
          λ k d l.
              let z = get_or xs k d in
              ap is_le (sym (quotient_cmp-positive z.ratio y.ratio (All-at HasRatio xs z ratios (Contains-get_or xs k d l)).positive fits_y.positive)) ∙
              upto_chain z first y (up k d l) (upto_chain first other.0 y to_w from_w),
        )

    -- with the one that was taken, no more of them pass than before
    left_count : (p : Entry → Bool) → count_by p (x ∷ peers ys) ≤ count_by p (peers xs)
    left_count p =
        let m = has_top ys other.0 other.1 in
        let before = peers_counted xs first is_top p in
        let same = counts_alike xs (x ∷ ys) taken (λ y. has_quotient_of first y && p y) in
        let split = count_by-cons (λ y. has_quotient_of first y && p y) x ys in
        let own : cond {A = ℕ} (has_quotient_of first x && p x) 1 0 ≡ cond (p x) 1 0 = ap (λ (b : Bool). cond {A = ℕ} (b && p x) 1 0) (has_top_quotient xs ratios first is_top x peer).1 in
        let after = peers_counted ys m.0 m.1 p in
        let new = count_by-cons p x (peers ys) in
        let up = count_up_to (λ y. has_quotient_of m.0 y && p y) (λ y. has_quotient_of first y && p y) ys (λ y c t.
        let parts = and_parts (has_quotient_of m.0 y) (p y) t in
        let was = left_peer y (peer_by ys m.0 m.1 y c parts.0) in
        and_from (has_quotient_of first y) (p y) (has_top_quotient xs ratios first is_top y was).1 parts.1) in
        omega (arith, before, same, split, own, after, new, up)

    left : (n : ℕ) (marked : Bool) (marks : List Bool) → AreCounted (peers xs) n marked marks → AreCounted (x ∷ peers ys) n marked marks
    left n marked marks held = record {
      counted = let before = held.counted in let less = less_than_before in omega (arith, before, less);
      apart = λ t index. let most = held.apart t index in let fewer = left_count (λ y. nat_eq y.index index) in omega (arith, most, fewer);
      indexes = λ t y c. elim (Contains-cases x (peers ys) y c) [
        | inl e ↦ held.indexes t y (subst (λ (z : Entry). Contains (peers xs) z) e peer)
        | inr k ↦ held.indexes t y (left_peer y k)
      ];
    }

-- where there are several peers, what is counted of them is that of one that is taken and those that are left
pub left_counted : (xs ys : List Entry) (x : Entry) → All HasRatio xs → Contains (peers xs) x → IsPermutation xs (x ∷ ys) → (n : ℕ) (marked : Bool) (marks : List Bool)
    → AreCounted (peers xs) n marked marks → 1 < n → AreCounted (x ∷ peers ys) n marked marks
left_counted xs ys x ratios peer taken n marked marks held several =
    let here = Contains-permutation (x ∷ ys) xs x (IsPermutation-sym xs (x ∷ ys) taken) (Contains-head x ys) in
    let first = has_top xs x here in
    let count = held.counted in
    left xs ratios first.0 first.1 x ys peer taken (omega (arith, several, count)) n marked marks held

-- those that are left then were peers before
pub left_peers : (xs ys : List Entry) (x : Entry) → All HasRatio xs → Contains (peers xs) x → IsPermutation xs (x ∷ ys) → 1 < length (peers xs)
    → (y : Entry) → Contains (peers ys) y → Contains (peers xs) y
left_peers xs ys x ratios peer taken several =
    let here = Contains-permutation (x ∷ ys) xs x (IsPermutation-sym xs (x ∷ ys) taken) (Contains-head x ys) in
    let first = has_top xs x here in
    left_peer xs ratios first.0 first.1 x ys peer taken several

pub peers_at_most : (xs : List Entry) → length (peers xs) ≤ length xs
peers_at_most xs = by_top (top xs) refl
  where
    by_top : (o : Option Entry) → top xs ≡ o → length (peers xs) ≤ length xs
    by_top (Some first) e =
        let all = sym (peers-length xs first e) ∙ length-filter (has_quotient_of first) xs in
        let most = count_by-le-length (has_quotient_of first) xs in
        omega (arith, all, most)
    by_top None e =
        let none : length (peers xs) ≡ 0 = ap (λ o. length (option_map_or (λ t. ranked (filter (has_quotient_of t) xs)) o [])) e in
        omega (arith, none)

-- the entry at the first place of a heap is a peer
pub first_is_peer : (xs : List Entry) → IsHeap xs → (x : Entry) → 0 < length xs → x ≡ get_or xs 0 x → Contains (peers xs) x
first_is_peer xs heap x some e = slice_get-Contains (peers xs) 0 x (first_peers xs ∙ top_first xs heap x some e)
