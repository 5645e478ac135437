-- The laws of the definitions, each of them the contract of a function of `laws`.
use Rattle.std.specs.Prelude.{◌≡◌, ◌↔◌, ℕ, List, [], ◌∷◌, IsTrue, All, Contains, MatchOption, IsPermutation, length, map, nat_eq, slice_get, take}
use Rattle.std.specs.List.{IsDistinct}
use Rattle.std.specs.List.Sorted.{IsSorted, IsStrictlyIncreasing}
use Rattle.std.specs.Ordering.{is_le, flip_args}
use Rattle.sl_base_quotients.specs.declared.entry.Entry.{Entry}
use Rattle.sl_base_quotients.specs.Entry.{entry_cmp}
use Rattle.sl_base_quotients.specs.Quotient.{FitsRatio, compare}
use Rattle.sl_base_rankings.specs.Ranking.{ranked, insert_ranked, without}
use Rattle.sl_base_rankings.specs.Peers.{top, peers, is_covered}
use Rattle.sl_base_rankings.specs.Lot.{lot_cmp, drawn}

-- what two tables answer alike: their tops, their peers with the number and the order of these, which lots cover them, and what lots draw
pub record AnswersAlike (xs ys : List Entry) : Type 0 where
  pub same_top : top xs ≡ top ys
  pub same_peers : peers xs ≡ peers ys
  pub same_covers : (lot : List ℕ) → is_covered lot xs ≡ is_covered lot ys
  pub same_drawn : (lot : List ℕ) → drawn lot xs ≡ drawn lot ys

-- tables that hold the same entries answer alike, in whatever order they are listed
abbrev pub OrderIsFree : Type 0
OrderIsFree = (xs ys : List Entry) → IsPermutation xs ys → AnswersAlike xs ys

-- an entry that is taken away from the same entries leaves the same entries
abbrev pub LeftAlike : Type 0
LeftAlike = (entry : Entry) (xs ys : List Entry) → IsPermutation (entry ∷ xs) (entry ∷ ys) → IsPermutation xs ys

-- the top is an entry that no other exceeds, and only a list without entries lacks one
abbrev pub Tops : Type 0
Tops = (xs : List Entry) → MatchOption (top xs) (xs ≡ []) (λ first. Contains xs first × All (λ entry. IsTrue (is_le (entry_cmp entry first))) xs)

-- what a ranking has
pub record IsRanking (xs ys : List Entry) : Type 0 where
  pub permutation : IsPermutation xs ys
  pub falling : IsSorted (flip_args entry_cmp) ys

-- `ranked` lists the entries from the greatest to the smallest
abbrev pub Rankings : Type 0
Rankings = (xs : List Entry) → IsRanking xs (ranked xs)

-- lists of the same entries have one ranking
abbrev pub RankedAlike : Type 0
RankedAlike = (xs ys : List Entry) → IsPermutation xs ys → ranked xs ≡ ranked ys

-- an entry that is put in goes into the ranking before the first entry that is not greater
abbrev pub RankedWithOneMore : Type 0
RankedWithOneMore = (entry : Entry) (xs ys : List Entry) → IsPermutation (entry ∷ xs) ys → ranked ys ≡ insert_ranked entry (ranked xs)

-- an entry that is taken out of the ranking leaves the ranking of the others
abbrev pub RankedWithoutOne : Type 0
RankedWithoutOne = (entry : Entry) (xs ys : List Entry) → IsPermutation xs (entry ∷ ys) → without entry (ranked xs) ≡ ranked ys

-- a list that falls is its own ranking
abbrev pub FallingRankings : Type 0
FallingRankings = (xs : List Entry) → IsSorted (flip_args entry_cmp) xs → ranked xs ≡ xs

-- the first of the peers is the top
abbrev pub FirstPeers : Type 0
FirstPeers = (xs : List Entry) → slice_get (peers xs) 0 ≡ top xs

-- the peers are those that come first in the ranking
abbrev pub PeersInFront : Type 0
PeersInFront = (xs : List Entry) → All (λ entry. FitsRatio entry.ratio) xs → peers xs ≡ take (length (peers xs)) (ranked xs)

-- the peers are those entries whose quotient no other's exceeds
abbrev pub PeersAreGreatest : Type 0
PeersAreGreatest =
    (xs : List Entry) → All (λ entry. FitsRatio entry.ratio) xs → (peer : Entry) →
    Contains (peers xs) peer ↔ (Contains xs peer × All (λ other. IsTrue (is_le (compare other.ratio peer.ratio))) xs)

-- of entries with different indexes, the peers stand by index, the smallest first
abbrev pub PeersByIndex : Type 0
PeersByIndex =
    (xs : List Entry) → All (λ entry. FitsRatio entry.ratio) xs → IsDistinct nat_eq (map (λ entry. entry.index) xs) →
    IsStrictlyIncreasing (map (λ entry. entry.index) (peers xs))

-- a lot draws a peer before which it draws no other, and only a list without entries lacks one
abbrev pub Draws : Type 0
Draws =
    (xs : List Entry) (lot : List ℕ) →
    MatchOption (drawn lot xs) (xs ≡ []) (λ peer. Contains (peers xs) peer × All (λ other. IsTrue (is_le (lot_cmp lot other peer))) (peers xs))
