-- The peers among the seats that wait are the next seats of the peers of the ladders.
use Rattle.std.proofs.Common.{◌≡◌, ℕ, ◌+◌, ◌*◌, ◌<◌, ◌≤◌, ◌&&◌, Bool, true, false, List, [], ◌∷◌, length, map, Option, Some, None, All, Contains, IsTrue, MatchOption, slice_get, get_or, refl, sym, ap, subst, ◌∙◌, arith}
use Rattle.std.specs.Prelude.{slice_index}
use Rattle.std.specs.Cmp.{ranks, nat_cmp_is}
use Rattle.std.specs.List.{filter, range_with_len}
use Rattle.std.specs.List.Sorted.{IsSorted}
use Rattle.std.specs.declared.cmp.Ordering.{Ordering}
use Rattle.std.specs.declared.cmp.Ordering.TheVariants.{Equal, Greater}
use Rattle.std.specs.Ordering.{MatchOrdering, nat_cmp, is_le, is_eq, is_lt, flip_args, ordering_then}
use Rattle.std.proofs.lemmas.Bool.{and_parts, and_from}
use Rattle.std.proofs.lemmas.Map.Keys.{le_from_is_le}
use Rattle.std.proofs.lemmas.Option.{slice_get-map}
use Rattle.std.proofs.lemmas.List.{length-map, get_or-map}
use Rattle.std.proofs.lemmas.List.Elements.{Contains-get_or}
use Rattle.std.proofs.lemmas.List.Kept.{AllPairs-from_increasing, IsStrictlyIncreasing-filter}
use Rattle.sl_base_quotients.specs.declared.entry.Entry.{Entry}
use Rattle.sl_base_quotients.specs.Quotient.{Quotient, AtMost, SameQuotient, compare}
use Rattle.sl_base_quotients.specs.Entry.{quotient_cmp, entry_cmp}
use Rattle.sl_base_quotients.specs.inner.EntryLaws.{quotient_cmp-positive}
use Rattle.sl_law_meaning.specs.methods.Ties.{Lists}
use Rattle.sl_law_meaning.specs.laws.Ladders.{IsPeer}
use Rattle.sl_base_quotients.proofs.Order.{AtMost-trans}
use Rattle.sl_law_meaning.proofs.methods.DrawnLots.{same_entries}
use Rattle.sl_base_rankings.specs.Ranking.{ranked}
use Rattle.sl_base_rankings.specs.Peers.{top, peers, has_quotient_of}
use Rattle.sl_base_rankings.proofs.Finding.{All-at, Contains-none, Contains-head, Contains-filter, filter-Contains}
use Rattle.sl_base_rankings.proofs.Fronts.{HasRatio, quotient_at_most}
use Rattle.sl_base_rankings.proofs.LawProofs.{order_is_free, first_peers, tops}
use Rattle.sl_base_rankings.proofs.RankedEntries.{falling_rankings}
use Rattle.sl_base_rankings.proofs.Rankings.{ranked-permutation}
use Rattle.sl_base_rankings.proofs.Tables.{peers-at_top}
use Rattle.sl_compile_pieces.specs.arenas.Arenas.{Arena, IsArena, waiting}
use Rattle.sl_compile_pieces.specs.arenas.Laws.{WaitingPeers}
use Rattle.sl_compile_pieces.proofs.arenas.Pieces.{filtered, below_there, range_increasing}
use Rattle.sl_compile_pieces.proofs.arenas.Waiting.{has_next, next_of, within, seat_waits, seat_waiting, seat_fits, all_fit}

-- ---- quotients and entries

equal : (x y : Quotient) → is_eq (compare x y) ≡ true → SameQuotient x y
equal x y = by_order (compare x y) (ranks (x.num * y.den) (y.num * x.den))
  where
    by_order : (r : Ordering) → MatchOrdering r (x.num * y.den < y.num * x.den) (x.num * y.den ≡ y.num * x.den) (y.num * x.den < x.num * y.den)
        → is_eq r ≡ true → SameQuotient x y
    by_order Equal h t = h
    by_order _ h t = cc

both : (x y : Quotient) → AtMost x y → AtMost y x → compare x y ≡ Equal
both x y h k = let same : x.num * y.den ≡ y.num * x.den = omega arith in sym (nat_cmp_is (x.num * y.den) (y.num * x.den) Equal same)

-- what does not exceed an entry has no greater quotient
no_greater : (x y : Entry) → HasRatio x → HasRatio y → is_le (entry_cmp x y) ≡ true → AtMost x.ratio y.ratio
no_greater x y fits_x fits_y h =
    le_from_is_le (x.ratio.num * y.ratio.den) (y.ratio.num * x.ratio.den)
    (ap is_le (sym (quotient_cmp-positive x.ratio y.ratio fits_x.positive fits_y.positive)) ∙ quotient_at_most x y h)

-- of entries with one quotient, that with the smaller index is the greater
by_index : (x y : Entry) → HasRatio x → HasRatio y → compare x.ratio y.ratio ≡ Equal → x.index < y.index → is_lt (entry_cmp x y) ≡ false
by_index x y fits_x fits_y same less =
    let first : quotient_cmp x.ratio y.ratio ≡ Equal = quotient_cmp-positive x.ratio y.ratio fits_x.positive fits_y.positive ∙ same in
    let second : nat_cmp y.index x.index ≡ Greater = sym (nat_cmp_is y.index x.index Greater less) in
    λ i. is_lt (ordering_then (ordering_then (ordering_then (first i) (second i)) (nat_cmp x.ratio.num y.ratio.num)) (nat_cmp x.ratio.den y.ratio.den))

-- ---- the peers of a table that holds the next seats

module _ (most : ℕ) (a : Arena) (t tied : List ℕ) (arena : IsArena most a) (few : (i : ℕ) → slice_index t i ≤ most) (listed : Lists (IsPeer a.ladders t) tied) where
  seats : List Entry
  seats = map (next_of a t) tied

  peer_at : (k : ℕ) → k < length tied → IsPeer a.ladders t (get_or tied k 0)
  peer_at k l = listed.has_only (get_or tied k 0) (Contains-get_or tied k 0 l)

  rises : (k : ℕ) → k + 1 < length tied → get_or a.places (get_or tied k 0) 0 < get_or a.places (get_or tied (k + 1) 0) 0
  rises k l =
      let last = within a t most arena (get_or tied (k + 1) 0) (peer_at (k + 1) l).next in
      AllPairs-from_increasing a.places arena.increasing (get_or tied k 0) (get_or tied (k + 1) 0) 0 (listed.in_order k l) last

  seats_fall : IsSorted (flip_args entry_cmp) seats
  unfolding seats
  seats_fall k d low l =
      let long = length-map tied (next_of a t) in
      let i = get_or tied k 0 in
      let j = get_or tied (k + 1) 0 in
      let p = peer_at k (omega (arith, l, long)) in
      let q = peer_at (k + 1) (omega (arith, l, long)) in
      let here : get_or seats k d ≡ next_of a t i = get_or-map (next_of a t) tied k 0 d (omega (arith, l, long)) in
      let same = both (next_of a t i).ratio (next_of a t j).ratio (q.greatest i p.next) (p.greatest j q.next) in
      (λ z. is_lt (entry_cmp (here z) (get_or-map (next_of a t) tied (k + 1) 0 d (omega (arith, l, long)) z)))
      ∙ by_index (next_of a t i) (next_of a t j) (seat_fits a t most arena few i p.next) (seat_fits a t most arena few j q.next) same (rises k (omega (arith, l, long)))

  module _ (first : Entry) (is_top : top (waiting a t) ≡ Some first) (there : Contains (waiting a t) first) (greatest : All (λ entry. IsTrue (is_le (entry_cmp entry first))) (waiting a t)) where
    fits_first : HasRatio first
    fits_first = All-at HasRatio (waiting a t) first (all_fit a t most arena few) there

    up_to_first : (j : ℕ) → has_next a t j ≡ true → AtMost (next_of a t j).ratio first.ratio
    up_to_first j h =
        no_greater (next_of a t j) first (seat_fits a t most arena few j h) fits_first
        (All-at (λ entry. IsTrue (is_le (entry_cmp entry first))) (waiting a t) (next_of a t j) greatest (seat_waits a t most arena j h))

    is_peer : (i : ℕ) → has_next a t i ≡ true → has_quotient_of first (next_of a t i) ≡ true → IsPeer a.ladders t i
    is_peer i h tie = record {
      next = h;
      greatest = λ j k.
          let same : SameQuotient first.ratio (next_of a t i).ratio = equal first.ratio (next_of a t i).ratio tie in
          AtMost-trans (next_of a t j).ratio first.ratio (next_of a t i).ratio fits_first.positive (up_to_first j k) (omega (arith, same));
    }

    has_top_quotient : (i : ℕ) → IsPeer a.ladders t i → has_quotient_of first (next_of a t i) ≡ true
    has_top_quotient i p =
        let f = seat_waiting a t most arena first there in
        let low : AtMost first.ratio (next_of a t i).ratio = subst (λ (x : Entry). AtMost x.ratio (next_of a t i).ratio) (sym f.2) (p.greatest f.0 f.1) in
        ap is_eq (both first.ratio (next_of a t i).ratio low (up_to_first i p.next))

    passes : ℕ → Bool
    passes i = has_next a t i && has_quotient_of first (next_of a t i)

    passing : List ℕ
    passing = filter passes (range_with_len 0 (length a.places))

    passing_lists : Lists (λ i. passes i ≡ true) passing
    unfolding passing passes
    passing_lists = record {
      in_order = IsStrictlyIncreasing-filter passes (range_with_len 0 (length a.places)) (range_increasing (length a.places));
      has = λ i h.
          let parts = and_parts (has_next a t i) (has_quotient_of first (next_of a t i)) h in
          Contains-filter passes (range_with_len 0 (length a.places)) i (below_there (length a.places) i (within a t most arena i parts.0)) h;
      has_only = λ i c. (filter-Contains passes (range_with_len 0 (length a.places)) i c).1;
    }

    passing_are : passing ≡ tied
    unfolding passes
    passing_are =
        same_entries (λ i. passes i ≡ true) (IsPeer a.ladders t) passing tied
        (λ i h. let parts = and_parts (has_next a t i) (has_quotient_of first (next_of a t i)) h in is_peer i parts.0 parts.1)
        (λ i p. and_from (has_next a t i) (has_quotient_of first (next_of a t i)) p.next (has_top_quotient i p)) passing_lists listed

    peers_at_top : peers (waiting a t) ≡ seats
    unfolding passing passes seats
    peers_at_top =
        peers-at_top (waiting a t) first is_top
        ∙ ap ranked (filtered (has_next a t) (next_of a t) (has_quotient_of first) (range_with_len 0 (length a.places)))
        ∙ ap (λ is. ranked (map (next_of a t) is)) passing_are
        ∙ falling_rankings (map (next_of a t) tied) seats_fall

  peers_found : (o : Option Entry) → top (waiting a t) ≡ o → MatchOption o (waiting a t ≡ []) (λ first. Contains (waiting a t) first × All (λ entry. IsTrue (is_le (entry_cmp entry first))) (waiting a t)) → peers (waiting a t) ≡ seats
  unfolding seats
  peers_found None is_top empty = ap peers empty ∙ none tied refl
    where
      none : (is : List ℕ) → tied ≡ is → [] ≡ map (next_of a t) is
      none [] e = refl
      none (i ∷ is) e =
          let p = listed.has_only i (subst (λ js. Contains js i) (sym e) (Contains-head i is)) in
          absurd (Contains-none (next_of a t i) (subst (λ xs. Contains xs (next_of a t i)) empty (seat_waits a t most arena i p.next)))
  peers_found (Some first) is_top h = peers_at_top first is_top h.0 h.1

  peers_are : peers (ranked (waiting a t)) ≡ map (next_of a t) tied
  unfolding seats
  peers_are =
      sym (order_is_free (waiting a t) (ranked (waiting a t)) (ranked-permutation (waiting a t))).same_peers
      ∙ peers_found (top (waiting a t)) refl (tops (waiting a t))

pub waiting_peers : WaitingPeers
waiting_peers most a t tied arena few listed =
    let are = peers_are most a t tied arena few listed in
    record {
      seats = are;
      number = ap length are ∙ length-map tied (next_of a t);
      places = ap (λ xs. map (λ seat. seat.index) xs) are ∙ indexes tied;
      first = sym (first_peers (ranked (waiting a t))) ∙ ap (λ xs. slice_get xs 0) are ∙ slice_get-map (next_of a t) tied 0;
      none = (
        λ empty. no_more tied (sym are ∙ ap peers empty),
        λ alone. no_seats (ranked (waiting a t)) (first_peers (ranked (waiting a t))) (are ∙ ap (map (next_of a t)) alone),
      );
    }
  where
    indexes : (is : List ℕ) → map (λ (seat : Entry). seat.index) (map (next_of a t) is) ≡ map (slice_index a.places) is
    indexes [] = refl
    indexes (i ∷ is) = ap (λ ns. slice_index a.places i ∷ ns) (indexes is)

    no_more : (is : List ℕ) → map (next_of a t) is ≡ [] → is ≡ []
    no_more [] e = refl
    no_more (i ∷ is) e = cc

    no_seats : (xs : List Entry) → slice_get (peers xs) 0 ≡ top xs → peers xs ≡ [] → xs ≡ []
    no_seats xs same e = by_top (top xs) (sym same ∙ ap (λ ys. slice_get ys 0) e) (tops xs)
      where
        by_top : (o : Option Entry) → o ≡ None → MatchOption o (xs ≡ []) (λ first. Contains xs first × All (λ entry. IsTrue (is_le (entry_cmp entry first))) xs) → xs ≡ []
        by_top None e h = h
        by_top (Some x) e h = cc
