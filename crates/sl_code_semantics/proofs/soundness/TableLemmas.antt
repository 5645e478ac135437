-- What is known of a priority table's entries: those that are put in and taken out, and that a table with entries has a top and a peer that
-- a lot draws.
use Rattle.std.proofs.Common.{◌≡◌, ◌≢◌, ℕ, ◌<◌, List, [], ◌∷◌, length, Option, Some, None, IsSomeAnd, All, Contains, MatchOption, inl, inr, arith}
use Rattle.std.specs.List.{filter}
use Rattle.std.specs.Option.{option_map_or}
use Rattle.std.specs.Ordering.{is_gt}
use Rattle.std.proofs.lemmas.Bool.{cases_Bool}
use Rattle.std.proofs.lemmas.List.Elements.{All-cons, All-nil, All-head, All-tail, All-contains, All-filter}
use Rattle.std.proofs.lemmas.List.Sorted.{All-permutation}
use Rattle.sl_base_quotients.specs.declared.entry.Entry.{Entry}
use Rattle.sl_base_quotients.specs.Entry.{entry_cmp}
use Rattle.sl_base_rankings.specs.Ranking.{insert_ranked, ranked}
use Rattle.sl_base_rankings.specs.Peers.{top, peers, has_quotient_of}
use Rattle.sl_base_rankings.specs.Lot.{drawn}
use Rattle.sl_base_rankings.proofs.Rankings.{ranked-permutation}
use Rattle.sl_base_rankings.proofs.LawProofs.{tops, draws}
use Rattle.sl_base_rankings.specs.Ranking.{same_entry, without}

-- ---- entries that are put in and taken out
module _ (P : Entry → Type 0) where
  pub inserted_all : (x : Entry) (xs : List Entry) → P x → All P xs → All P (insert_ranked x xs)
  inserted_all x [] h all = All-cons P x [] h all
  inserted_all x (y ∷ ys) h all =
      elim (cases_Bool (is_gt (entry_cmp y x))) [
        | inl t ↦ rw t (All-cons P y (insert_ranked x ys) (All-head P y ys all) (inserted_all x ys h (All-tail P y ys all)))
        | inr f ↦ rw f (All-cons P x (y ∷ ys) h all)
      ]

  pub without_all : (x : Entry) (xs : List Entry) → All P xs → All P (without x xs)
  without_all x [] all = all
  without_all x (y ∷ ys) all =
      elim (cases_Bool (same_entry x y)) [
        | inl t ↦ rw t (All-tail P y ys all)
        | inr f ↦ rw f (All-cons P y (without x ys) (All-head P y ys all) (without_all x ys (All-tail P y ys all)))
      ]

  pub peers_all : (xs : List Entry) → All P xs → All P (peers xs)
  peers_all xs all = at (top xs)
    where
      at : (first : Option Entry) → All P (option_map_or (λ x. ranked (filter (has_quotient_of x) xs)) first [])
      at None = All-nil P
      at (Some x) = All-permutation P (filter (has_quotient_of x) xs) _ (ranked-permutation (filter (has_quotient_of x) xs)) (All-filter (has_quotient_of x) P xs all)

  found_all : (o : Option Entry) (xs ys : List Entry) (Q : Entry → Type 0) → ys ≢ [] → All P xs → MatchOption o (ys ≡ []) (λ x. Contains xs x × Q x) → IsSomeAnd o P
  found_all None xs ys Q some all h = absurd (some h)
  found_all (Some x) xs ys Q some all h = All-contains P xs x all h.0

  -- ---- the top, and the peer that a lot draws
  pub top_all : (xs : List Entry) → xs ≢ [] → All P xs → IsSomeAnd (top xs) P
  top_all xs some all = found_all (top xs) xs xs _ some all (tops xs)

  pub drawn_all : (xs : List Entry) → xs ≢ [] → All P xs → (lot : List ℕ) → IsSomeAnd (drawn lot xs) P
  drawn_all xs some all lot = found_all (drawn lot xs) (peers xs) xs _ some (peers_all xs all) (draws xs lot)

pub inserted_some : (x : Entry) (xs : List Entry) → insert_ranked x xs ≢ []
inserted_some x [] h = cc
inserted_some x (y ∷ ys) h =
    elim (cases_Bool (is_gt (entry_cmp y x))) [
      | inl t ↦ let e : y ∷ insert_ranked x ys ≡ [] = rw t at h in cc
      | inr f ↦ let e : x ∷ y ∷ ys ≡ [] = rw f at h in cc
    ]

-- a table without entries has no peers
pub peers_some : (xs : List Entry) → 0 < length (peers xs) → xs ≢ []
peers_some [] h e = absurd (omega arith)
peers_some (x ∷ xs) h e = cc
