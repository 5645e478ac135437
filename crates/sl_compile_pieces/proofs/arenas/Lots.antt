-- What a stage's lot covers and draws of the seats that wait.
use Rattle.std.proofs.Common.{IsPermutation, ◌+◌, ◌≡◌, ◌↔◌, ℕ, ◌<◌, ◌≤◌, List, [], ◌∷◌, length, map, get_or, All, Contains, Option, Some, None, IsTrue, MatchOption, refl, sym, ap, subst, ◌∙◌, inl, inr, arith}
use Rattle.std.specs.Prelude.{slice_index}
use Rattle.std.specs.Ordering.{is_le}
use Rattle.std.specs.List.Sorted.{IsStrictlyIncreasing}
use Rattle.std.proofs.lemmas.Bool.{cases_lt}
use Rattle.std.proofs.lemmas.List.Kept.{AllPairs-from_increasing}
use Rattle.std.proofs.lemmas.List.Sorted.{Contains-permutation, IsPermutation-append_comm, IsPermutation-sym}
use Rattle.std.proofs.lemmas.Option.{none-some, same_Some}
use Rattle.sl_base_quotients.specs.declared.entry.Entry.{Entry}
use Rattle.sl_law_meaning.specs.methods.Ties.{Lists, NamesAll}
use Rattle.sl_law_meaning.specs.methods.Ties as meaning
use Rattle.sl_law_meaning.specs.laws.Awards.{DrawsNext}
use Rattle.sl_law_meaning.specs.laws.Ladders.{Has, IsPeer, RaisesEach}
use Rattle.sl_law_meaning.specs.laws.Walks.{MidBatch}
use Rattle.sl_law_meaning.proofs.methods.DrawnLots.{drawn_only, drawn_distinct, drawn_length}
use Rattle.sl_law_meaning.proofs.methods.LadderProofs.{batches}
use Rattle.sl_law_meaning.proofs.methods.RaisedSeats.{increasing_distinct}
use Rattle.sl_law_meaning.proofs.methods.WalkProofs.{walks}
use Rattle.sl_base_rankings.specs.Ranking.{ranked}
use Rattle.sl_base_rankings.specs.Peers.{peers}
use Rattle.sl_base_rankings.specs.Lot.{lot_cmp}
use Rattle.sl_base_rankings.specs.Lot as machine
use Rattle.sl_base_rankings.proofs.Finding.{Contains-none, Contains-cases, Contains-head, Contains-tail}
use Rattle.sl_base_rankings.proofs.LawProofs.{draws}
use Rattle.sl_code_semantics.specs.SameLots.{SameLot, PeersAre}
use Rattle.sl_code_semantics.proofs.drawing.LotDraws.{same_covers, same_draws}
use Rattle.sl_compile_pieces.specs.arenas.Arenas.{Arena, IsArena, waiting}
use Rattle.sl_compile_pieces.specs.arenas.Laws.{SeatTaken, WaitingCovered, WaitingDrawn}
use Rattle.sl_compile_pieces.proofs.arenas.Peers.{waiting_peers}
use Rattle.sl_compile_pieces.proofs.arenas.Taken.{waiting_taken}
use Rattle.sl_compile_pieces.proofs.arenas.Waiting.{next_of, within}

-- ---- elements of a mapped list

module _ {X Y : Type 0} (f : X → Y) where
  mapped_there : (xs : List X) (x : X) → Contains xs x → Contains (map f xs) (f x)
  mapped_there [] x c = absurd (Contains-none x c)
  mapped_there (z ∷ zs) x c =
      elim (Contains-cases z zs x c) [
        | inl e ↦ subst (λ w. Contains (f z ∷ map f zs) (f w)) e (Contains-head (f z) (map f zs))
        | inr later ↦ Contains-tail (f z) (map f zs) (f x) (mapped_there zs x later)
      ]

  mapped_of : (xs : List X) (y : Y) → Contains (map f xs) y → (x : X) × Contains xs x × (y ≡ f x)
  mapped_of [] y c = absurd (Contains-none y c)
  mapped_of (z ∷ zs) y c =
      elim (Contains-cases (f z) (map f zs) y c) [
        | inl e ↦ (z, Contains-head z zs, sym e)
        | inr later ↦ let rest = mapped_of zs y later in (rest.0, Contains-tail z zs rest.0 rest.1, rest.2)
      ]

-- numbers that rise differ by their places
one_place : (places : List ℕ) (i j : ℕ) → IsStrictlyIncreasing places → i < length places → j < length places → get_or places i 0 ≡ get_or places j 0 → i ≡ j
one_place places i j rise within_i within_j same =
    elim (cases_lt i j) [
      | inl less ↦ absurd (let l = AllPairs-from_increasing places rise i j 0 less within_j in omega (arith, l, same))
      | inr not_less ↦ elim (cases_lt j i) [
        | inl less ↦ absurd (let l = AllPairs-from_increasing places rise j i 0 less within_i in omega (arith, l, same))
        | inr neither ↦ omega arith
      ]
    ]

-- ---- the peers of the table

module _ (most : ℕ) (a : Arena) (t tied : List ℕ) (arena : IsArena most a) (few : (i : ℕ) → slice_index t i ≤ most) (listed : Lists (IsPeer a.ladders t) tied) where
  pub peer_of : (x : Entry) → Contains (peers (ranked (waiting a t))) x → (i : ℕ) × Contains tied i × (x ≡ next_of a t i)
  peer_of x c = mapped_of (next_of a t) tied x (subst (λ (xs : List Entry). Contains xs x) (waiting_peers most a t tied arena few listed).seats c)

  peer_there : (i : ℕ) → Contains tied i → Contains (peers (ranked (waiting a t))) (next_of a t i)
  peer_there i c = subst (λ (xs : List Entry). Contains xs (next_of a t i)) (sym (waiting_peers most a t tied arena few listed).seats) (mapped_there (next_of a t) tied i c)

  peers_at : (P : ℕ → Type 0) → ((i : ℕ) → IsPeer a.ladders t i ↔ P i) → PeersAre a.places P (ranked (waiting a t))
  peers_at P same = record {
    each = λ x c. let p = peer_of x c in (p.0, (same p.0).0 (listed.has_only p.0 p.1), ap (λ (y : Entry). y.index) p.2);
    all = λ i p. (next_of a t i, peer_there i (listed.has i ((same i).1 p)), refl);
    within = λ i p. within a t most arena i ((same i).1 p).next;
  }

pub waiting_covered : WaitingCovered
waiting_covered most a t tied lot meant arena few listed same =
    same_covers lot meant a.places tied (ranked (waiting a t)) same
    (peers_at most a t tied arena few listed (Contains tied) (λ i. (listed.has i, listed.has_only i)))

module _ (most : ℕ) (a : Arena) (s tied t lot meant : List ℕ) (k : ℕ) (arena : IsArena most a) (few : (i : ℕ) → slice_index t i ≤ most) (same : SameLot lot meant a.places)
    (all : NamesAll meant tied) (mid : MidBatch a.ladders s tied (meaning.drawn meant k tied) t) (more : k < length tied) (next : DrawsNext meant tied k) where
  Left : ℕ → Type 0
  Left i = Contains tied i × ¬ Contains (meaning.drawn meant k tied) i

  are_left : (i : ℕ) → IsPeer a.ladders t i ↔ Left i
  unfolding Left
  are_left =
      let drawn_k = drawn_length meant k tied same.distinct (increasing_distinct tied mid.listed.in_order) all (omega arith) in
      ((walks a.ladders arena.falling).within s tied (meaning.drawn meant k tied) t mid).left (omega (arith, more, drawn_k))

  left : List ℕ
  left = ((batches a.ladders arena.falling).peers t).0

  left_listed : Lists (IsPeer a.ladders t) left
  unfolding left
  left_listed = ((batches a.ladders arena.falling).peers t).1

  at_left : PeersAre a.places Left (ranked (waiting a t))
  at_left = peers_at most a t left arena few left_listed Left are_left

  -- the peer at the place of the one drawn is its next seat
  drawn_peer : (x : Entry) → x.index ≡ get_or a.places next.entry 0 → Contains (peers (ranked (waiting a t))) x → x ≡ next_of a t next.entry
  unfolding Left
  drawn_peer x at c =
      let p = peer_of most a t left arena few left_listed x c in
      let here = at_left.within p.0 ((are_left p.0).0 (left_listed.has_only p.0 p.1)) in
      let there = at_left.within next.entry (next.one_of, next.left) in
      let one : p.0 ≡ next.entry = one_place a.places p.0 next.entry arena.increasing here there (sym (ap (λ (y : Entry). y.index) p.2) ∙ at) in
      p.2 ∙ ap (next_of a t) one

  drawn_is : (o : Option Entry) → machine.drawn lot (ranked (waiting a t)) ≡ o
      → MatchOption o (ranked (waiting a t) ≡ []) (λ peer. Contains (peers (ranked (waiting a t))) peer × All (λ other. IsTrue (is_le (lot_cmp lot other peer))) (peers (ranked (waiting a t))))
      → (x : Entry) × (machine.drawn lot (ranked (waiting a t)) ≡ Some x) × (x.index ≡ get_or a.places next.entry 0)
      → machine.drawn lot (ranked (waiting a t)) ≡ Some (next_of a t next.entry)
  drawn_is None is none found = absurd (none-some found.0 (sym is ∙ found.1))
  drawn_is (Some y) is one found =
      let same_one = same_Some found.0 y (sym found.1 ∙ is) in
      found.1 ∙ ap Some (drawn_peer found.0 found.2 (subst (λ (z : Entry). Contains (peers (ranked (waiting a t))) z) (sym same_one) one.0))

  -- the same entries, the one drawn next as the last of them or as the first
  last_first : IsPermutation (meaning.drawn meant (k + 1) tied) (next.entry ∷ meaning.drawn meant k tied)
  last_first =
      subst (λ is. IsPermutation is (next.entry ∷ meaning.drawn meant k tied)) (sym next.drawn_too)
      (IsPermutation-append_comm (meaning.drawn meant k tied) (next.entry ∷ []))

  drawn_more : (u : List ℕ) → MidBatch a.ladders s tied (next.entry ∷ meaning.drawn meant k tied) u → MidBatch a.ladders s tied (meaning.drawn meant (k + 1) tied) u
  drawn_more u later =
      let first = next.entry ∷ meaning.drawn meant k tied in
      let last = meaning.drawn meant (k + 1) tied in
      record {
        settled = later.settled;
        listed = later.listed;
        distinct = drawn_distinct meant (k + 1) tied same.distinct;
        some = λ i c. drawn_only meant (k + 1) tied i c;
        raised = record {
          same_length = later.raised.same_length;
          raised = λ i c. later.raised.raised i (Contains-permutation last first i last_first c);
          others = λ i out. later.raised.others i (λ c. out (Contains-permutation first last i (IsPermutation-sym last first last_first) c));
        };
      }

  drawn_goes : (u : List ℕ) → Has a.ladders next.entry (slice_index t next.entry) → RaisesEach (next.entry ∷ []) t u →
      MidBatch a.ladders s tied (meaning.drawn meant (k + 1) tied) u × SeatTaken a next.entry t u
  drawn_goes u has raised = (
    drawn_more u (((walks a.ladders arena.falling).within s tied (meaning.drawn meant k tied) t mid).next next.entry u next.one_of next.left raised).0,
    waiting_taken most a next.entry t u arena has raised,
  )

pub waiting_drawn : WaitingDrawn
unfolding Left
waiting_drawn most a s tied t lot meant k arena few same all mid more next =
    let has = ((are_left most a s tied t lot meant k arena few same all mid more next next.entry).1 (next.one_of, next.left)).next in
    record {
      has = has;
      held = mid.raised.others next.entry next.left;
      draws = drawn_is most a s tied t lot meant k arena few same all mid more next (machine.drawn lot (ranked (waiting a t))) refl (draws (ranked (waiting a t)) lot)
          (same_draws lot meant a.places tied k (ranked (waiting a t)) same arena.increasing all next (at_left most a s tied t lot meant k arena few same all mid more next));
      goes = λ u raised. drawn_goes most a s tied t lot meant k arena few same all mid more next u has raised;
    }
