-- Entries in a binary heap. The children of place p stand at 2p + 1 and 2p + 2.
use Rattle.std.specs.Prelude.{◌≡◌, ℕ, Bool, true, ◌&&◌, Some, nat_eq, zero, suc, ◌+◌, ◌-◌, ◌*◌, ◌/◌, ◌<◌, ◌≤◌, ◌≢◌, false, List, [], ◌∷◌, ◌++◌, IsTrue, All, Contains, length, option_to_list, slice_get, slice_index_or}
use Rattle.std.specs.List.{filter, list_all, list_any}
use Rattle.std.specs.Ordering.{is_gt, is_le}
use Rattle.sl_base_quotients.specs.declared.entry.Entry.{Entry}
use Rattle.sl_base_quotients.specs.Entry.{entry_cmp}
use Rattle.sl_base_quotients.specs.Quotient.{FitsRatio}
use Rattle.sl_base_rankings.specs.Peers.{has_quotient_of, peers}
use Rattle.sl_base_rankings.specs.Lot.{lot_cmp}
use Rattle.sl_prio.specs.inner.Marks.{AreApart, HaveMarks, first_named}

-- the entry at k is no greater than the one at p
abbrev pub IsUnder : List Entry → ℕ → ℕ → Type 0
IsUnder xs p k = (d : Entry) → IsTrue (is_le (entry_cmp (slice_index_or xs k d) (slice_index_or xs p d)))

-- no entry is greater than the one at its parent's place
abbrev pub IsHeap : List Entry → Type 0
IsHeap xs = (p k : ℕ) → p * 2 + 1 ≤ k → k ≤ p * 2 + 2 → k < length xs → IsUnder xs p k

-- the others would be a heap, were the entry at j not there
pub record IsHeapBut (xs : List Entry) (j : ℕ) : Type 0 where
  pub apart : (p k : ℕ) → p * 2 + 1 ≤ k → k ≤ p * 2 + 2 → k < length xs → p ≢ j → k ≢ j → IsUnder xs p k
  pub across : (p k : ℕ) → p * 2 + 1 ≤ j → j ≤ p * 2 + 2 → j * 2 + 1 ≤ k → k ≤ j * 2 + 2 → k < length xs → IsUnder xs p k

-- no child of j is greater than the entry at c
abbrev pub HasChildrenUnder : List Entry → ℕ → ℕ → Type 0
HasChildrenUnder xs j c = (k : ℕ) → j * 2 + 1 ≤ k → k ≤ j * 2 + 2 → k < length xs → IsUnder xs c k

-- only the entry at j may be greater than its parent
pub record MayRise (xs : List Entry) (j : ℕ) : Type 0 where
  pub within : j < length xs
  pub others : IsHeapBut xs j
  pub below : HasChildrenUnder xs j j

-- c is the place of the greatest child of j
pub record IsGreatestChild (xs : List Entry) (j c : ℕ) : Type 0 where
  pub from : j * 2 + 1 ≤ c
  pub to : c ≤ j * 2 + 2
  pub within : c < length xs
  pub greatest : HasChildrenUnder xs j c

-- if place j has a parent, x is not greater than the entry there
abbrev pub HasNoSmallerParent : List Entry → Entry → ℕ → Type 0
HasNoSmallerParent xs x j = 0 < j → is_gt (entry_cmp x (slice_index_or xs ((j - 1) / 2) x)) ≡ false

-- p is the parent of place j, and x is greater than the entry there
pub record IsSmallerParent (xs : List Entry) (x : Entry) (j p : ℕ) : Type 0 where
  pub above : 0 < j
  pub parent : p ≡ (j - 1) / 2
  pub smaller : is_gt (entry_cmp x (slice_index_or xs p x)) ≡ true

-- what the entries of a table keep
pub record IsKept (xs : List Entry) : Type 0 where
  pub heap : IsHeap xs
  pub ratios : All (λ entry. FitsRatio entry.ratio) xs

-- what is counted of some entries: how many they are; if they are marked, no two have one index, and their indexes have marks
pub record AreCounted (xs : List Entry) (count : ℕ) (marked : Bool) (marks : List Bool) : Type 0 where
  pub counted : count ≡ length xs
  pub apart : IsTrue marked → AreApart xs
  pub indexes : IsTrue marked → HaveMarks xs marks

-- what a table keeps: its entries, and what is counted of the peers
pub record IsTable (xs : List Entry) (count : ℕ) (marked : Bool) (marks : List Bool) : Type 0 where
  pub kept : IsKept xs
  pub counted : AreCounted (peers xs) count marked marks

-- the entries at place p and below it, as far as n levels
abbrev pub levels : ℕ → List Entry → ℕ → List Entry
levels zero xs p = []
levels (suc n) xs p = option_to_list (slice_get xs p) ++ (levels n xs (2 * p + 1) ++ levels n xs (2 * p + 2))

-- the entries at place p and below it
abbrev pub subtree : List Entry → ℕ → List Entry
subtree xs p = levels (length xs) xs p

-- the peers at place p and below it
abbrev pub peers_under : Entry → List Entry → ℕ → List Entry
peers_under first xs p = filter (has_quotient_of first) (subtree xs p)

-- x stands at place p, and is a peer, to which those below come
pub record IsPeerAt (first : Entry) (xs : List Entry) (p : ℕ) (x : Entry) : Type 0 where
  pub within : p < length xs
  pub here : slice_get xs p ≡ Some x
  pub peers : peers_under first xs p ≡ x ∷ (peers_under first xs (2 * p + 1) ++ peers_under first xs (2 * p + 2))

-- whether an entry has an index, and the quotient of the first
abbrev pub is_peer_with : Entry → ℕ → Entry → Bool
is_peer_with first index x = nat_eq x.index index && has_quotient_of first x

-- an entry that passes stands at place k
pub record IsAt (p : Entry → Bool) (xs : List Entry) (k : ℕ) : Type 0 where
  pub within : k < length xs
  pub here : (d : Entry) → p (slice_index_or xs k d) ≡ true

-- with an entry more, which is one of them, there are n peers
pub record IsNewPeer (xs : List Entry) (x : Entry) (n : ℕ) : Type 0 where
  pub count : n ≡ length (peers (x ∷ xs))
  pub here : Contains (peers (x ∷ xs)) x

-- whether a lot names the index of each entry
abbrev pub are_named : List ℕ → List Entry → Bool
are_named lot xs = list_all (λ x. list_any (λ named. nat_eq named x.index) lot) xs

-- y is the one that the lot draws first of x and the others
pub record IsDrawnOf (lot : List ℕ) (others : List Entry) (x y : Entry) : Type 0 where
  pub among : Contains (x ∷ others) y
  pub most : All (λ other. IsTrue (is_le (lot_cmp lot other y))) (x ∷ others)

-- the entry at place r is the one that the lot draws first of the one at `best` and the others
pub record IsDrawnFrom (lot : List ℕ) (xs others : List Entry) (best r : ℕ) : Type 0 where
  pub within : r < length xs
  pub drawn : (d : Entry) → IsDrawnOf lot others (slice_index_or xs best d) (slice_index_or xs r d)

-- at place k stands a peer whose index is the first name of a lot that is the index of a peer
pub record IsFirstNamed (lot : List ℕ) (first : Entry) (xs : List Entry) (k : ℕ) : Type 0 where
  pub within : k < length xs
  pub named : (d : Entry) → first_named lot (peers_under first xs 0) ≡ Some (slice_index_or xs k d).index
  pub here : (d : Entry) → IsAt (is_peer_with first (slice_index_or xs k d).index) xs k
