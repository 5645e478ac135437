-- A tie among the winners of a list ends the run, with the list as its scope.
use Rattle.std.proofs.Common.{◌≡◌, ℕ, zero, suc, ◌+◌, ◌-◌, ◌≤◌, true, Bool, List, [], ◌∷◌, map, length, sum, Contains, Some, option_map, slice_get, slice_index, refl, sym, ap, ◌∙◌, arith}
use Rattle.std.proofs.lemmas.List.Sorted.{IsPermutation-sym}
use Rattle.std.proofs.lemmas.Option.{slice_get-map, slice_get_within}
use Rattle.sl_base_quotients.specs.declared.entry.Entry.{Entry}
use Rattle.sl_law_meaning.specs.declared.fault.Item.TheVariants as item
use Rattle.sl_law_meaning.specs.declared.fault.FaultKind.TheVariants as fault
use Rattle.sl_law_meaning.specs.declared.fault.Scope.TheVariants as scope
use Rattle.sl_law_meaning.specs.declared.election.Win.{Win}
use Rattle.sl_law_meaning.specs.returns.Election.{Election, IsElection, has_list}
use Rattle.sl_law_meaning.specs.methods.Ties.{Lists, Tied, IsChoice}
use Rattle.sl_law_meaning.specs.meaning.Splits.{entries_at}
use Rattle.sl_law_meaning.specs.meaning.Results.{fault_at}
use Rattle.sl_law_meaning.specs.meaning.Seating.{winner_items, IsSeating}
use Rattle.sl_law_meaning.specs.laws.Ladders.{IsPeer, IsSettled, IsTop, RaisesEach}
use Rattle.sl_law_meaning.proofs.methods.RaisedSeats.{raise, Contains-head, Contains-tail}
use Rattle.sl_code_instructions.specs.Codes.{CountingCode}
use Rattle.sl_code_instructions.specs.declared.instr.Instr.TheVariants.{Take, Tie}
use Rattle.sl_code_instructions.specs.declared.operand.Entries.TheVariants as entries
use Rattle.sl_code_instructions.specs.declared.operand.ScopeKind.TheVariants as kind
use Rattle.sl_code_semantics.specs.declared.known.TheConstants.{LAST_CLAUSE}
use Rattle.sl_base_rankings.specs.Ranking.{ranked}
use Rattle.sl_base_rankings.specs.Peers.{top, peers}
use Rattle.sl_base_rankings.proofs.RankedEntries.{ranked_alike}
use Rattle.sl_code_semantics.specs.State.{State, PriorityTable, End, Faulted, with_register}
use Rattle.sl_code_semantics.specs.Places.{item_of}
use Rattle.sl_code_semantics.specs.Effects.{Goes, effect, with_party, with_land}
use Rattle.sl_code_semantics.proofs.effects.Cursors.{both_are, winner_is, wland_does}
use Rattle.sl_code_semantics.proofs.effects.Records.{tie_ends}
use Rattle.sl_code_semantics.proofs.effects.Table.{entered, share_does}
use Rattle.sl_compile_plans.specs.declared.plan.Test.TheVariants as test
use Rattle.sl_compile_plans.specs.Trees.{If, Stop}
use Rattle.sl_compile_plans.specs.Achieves.{Achieves}
use Rattle.sl_compile_plans.proofs.Rules.{stop_achieves, if_no_party, if_empty, line_first, line_over}
use Rattle.sl_compile_pieces.proofs.seats.Tying.{first_tied}
use Rattle.sl_compile_pieces.proofs.seats.Lists.{mapped_at}
use Rattle.sl_compile_pieces.specs.arenas.Arenas.{Arena, HasWaiting, seat_of, waiting, table_of, seat_taken}
use Rattle.sl_compile_pieces.specs.arenas.Laws.{PeersWait, SeatTaken}
use Rattle.sl_compile_pieces.proofs.arenas.Peers.{waiting_peers}
use Rattle.sl_compile_pieces.proofs.arenas.TableEffects.{waiting_effects}
use Rattle.sl_compile_pieces.proofs.arenas.Taken.{waiting_taken}
use Rattle.sl_compile_pieces.specs.declared.registers.TheConstants as reg
use Rattle.sl_compile_pieces.specs.inner.awards.Awards.{EndsTied}
use Rattle.sl_compile_pieces.proofs.awards.Turns.{raised_once}
use Rattle.sl_compile_pieces.specs.covers.Trees.{nothing, tied_winners}
use Rattle.sl_compile_pieces.proofs.covers.Winners.{IsWinnerOf, each_winner, won, entry_of, seat_is, nothing_held, next_winner}
use Rattle.sl_compile_pieces.proofs.covers.Seats.{AreSeated, listed, to_give, meant, is_arena, tops}

-- the run ends with a tie of the list, as its choice leaves it
pub record EndsInListTie (c : CountingCode) (eligible : ℕ → Bool) (e : Election) (base : List ℕ) (l : ℕ × ℕ) (end : End) : Type 0 where
  pub number : ℕ
  pub among : List ℕ
  pub choice : IsSeating eligible e base l (Tied number among)
  pub there : has_list e l.0 l.1 ≡ true
  pub is : end ≡ Faulted (fault_at (length c.stages) (scope.List l.0 l.1) (fault.Tie number (entries_at (winner_items eligible e l.0 l.1) among)))

module _ (eligible : ℕ → Bool) (e : Election) (base : List ℕ) (l : ℕ × ℕ) (is : IsElection e) where
  -- no winner has two seats
  one_at_most : (s : List ℕ) → IsSettled (listed eligible e l).ladders s → (i : ℕ) → slice_index s i ≤ to_give eligible e base l + 1
  one_at_most s settled i = below (slice_index s i) refl
    where
      below : (held : ℕ) → slice_index s i ≡ held → slice_index s i ≤ to_give eligible e base l + 1
      below zero same = omega (arith, same)
      below (suc held) same =
          let has = settled.on.there i (omega (arith, nothing_held (won eligible e l) i, same)) in
          omega (arith, same, (next_winner (won eligible e l) i (slice_index s i - 1) has).2)

  -- the items of the peers are those of the winners
  items_are : (s js : List ℕ) → ((j : ℕ) → Contains js j → IsPeer (listed eligible e l).ladders s j) →
      map (λ (y : Entry). item_of e entries.Win y.index) (map (λ j. seat_of (listed eligible e l) j (slice_index s j)) js) ≡ entries_at (winner_items eligible e l.0 l.1) js
  items_are s [] each = refl
  items_are s (j ∷ js) each =
      let found = next_winner (won eligible e l) j (slice_index s j) (each j (Contains-head j js)).next in
      let rest = items_are s js (λ k there. each k (Contains-tail j js k there)) in
      let there : slice_get (winner_items eligible e l.0 l.1) j ≡ Some (item.Win found.0.0) =
      slice_get-map (λ x. item.Win x.0) (won eligible e l) j ∙ ap (option_map (λ x. item.Win x.0)) found.1 in
      rw there ((λ z. item.Win (mapped_at (λ x. x.0) (won eligible e l) j found.0 found.1 z) ∷ rest z))

  module _ (c : CountingCode) (s tied : List ℕ) (settled : IsSettled (listed eligible e l).ladders s) (lists : Lists (IsPeer (listed eligible e l).ladders s) tied)
      (choice : IsChoice (IsTop (listed eligible e l).ladders (to_give eligible e base l)) (meant eligible e l) (Tied (to_give eligible e base l - sum s) tied)) where
    abbrev a : Arena
    a = listed eligible e l

    abbrev seats : ℕ
    seats = to_give eligible e base l

    abbrev tab : PriorityTable
    tab = table_of a (waiting a s)

    wait : PeersWait a s tied
    wait = waiting_peers (seats + 1) a s tied (is_arena eligible e base l is) (one_at_most s settled) lists

    -- with the cursors at the list
    stops : (i : ℕ) → slice_get tied 0 ≡ Some i → has_list e l.0 l.1 ≡ true → (t : State) → t.table ≡ Some tab → t.land ≡ Some l.0 → t.party ≡ Some l.1 →
        t.registers reg.LEFT ≡ seats - sum s →
        Achieves c e (If (test.Empty reg.PEERS) nothing (Stop (Tie LAST_CLAUSE kind.List reg.LEFT))) t (λ after. ⊥) (EndsInListTie c eligible e base l)
    stops i some there t holds land party left =
        let first : top (ranked (waiting a s)) ≡ Some (seat_of a i (slice_index s i)) = wait.first ∙ ap (option_map (λ j. seat_of a j (slice_index s j))) some in
        let items : map (λ (x : Entry). item_of e a.entries x.index) (peers (ranked (waiting a s))) ≡ entries_at (winner_items eligible e l.0 l.1) tied =
        ap (map (λ (x : Entry). item_of e a.entries x.index)) wait.seats ∙ items_are s tied lists.has_only in
        if_empty {t = tab} holds
        (λ none. absurd (let many = wait.number in omega (arith, slice_get_within tied 0 i some, many, none)))
        (λ m many.
        let counted : State = with_register reg.PEERS (suc m) t in
        let scope_is = both_are t.land t.party scope.List l.0 l.1 land party in
        stop_achieves
        {x = Faulted (fault_at (length c.stages) (scope.List l.0 l.1) (fault.Tie (t.registers reg.LEFT) (map (λ (x : Entry). item_of e a.entries x.index) (peers (ranked (waiting a s))))))}
        (tie_ends c e counted LAST_CLAUSE kind.List (length c.stages) (scope.List l.0 l.1) refl scope_is reg.LEFT tab (seat_of a i (slice_index s i)) holds first)
        (record {
          number = seats - sum s;
          among = tied;
          choice = ((tops eligible e base l is).choice seats (meant eligible e l) (Tied (seats - sum s) tied)).0 choice;
          there = there;
          is = λ z. Faulted (fault_at (length c.stages) (scope.List l.0 l.1) (fault.Tie (left z) (items z)));
        }))

    -- one of the winners is taken, and enters again
    module _ (i : ℕ) (y : ℕ × Win) (at : slice_get (won eligible e l) i ≡ Some y) (some : slice_get tied 0 ≡ Some i) (peer : IsPeer a.ladders s i) (state : State) (waits : HasWaiting a s state)
        (left : state.registers reg.LEFT ≡ seats - sum s) where
      winner : IsWinnerOf eligible e l y
      winner = each_winner eligible e l i y at

      raised : RaisesEach (i ∷ []) s (raise s (i ∷ []))
      raised =
          let short = (is_arena eligible e base l is).falling.within i (slice_index s i) peer.next in
          raised_once s i (omega (arith, short))

      taken : SeatTaken a i s (raise s (i ∷ []))
      taken = waiting_taken (seats + 1) a i s (raise s (i ∷ [])) (is_arena eligible e base l is) peer.next raised

      abbrev now : State
      now = seat_taken e a i (slice_index s i) taken.others state

      abbrev again : State
      again = entered (record { num = y.1.first; den = y.1.valid }) y.0 (table_of a taken.others) now

      abbrev on_land : State
      on_land = with_land (Some y.1.land) again

      wins : now.win ≡ Some y.0
      wins = ap Some (mapped_at (λ x. x.0) (won eligible e l) i y at)

      takes : effect c e Take state ≡ Goes now
      takes =
          let effects = waiting_effects c e (seats + 1) a s state (is_arena eligible e base l is) (one_at_most s settled) waits in
          effects.takes i taken.others (record { has = peer.next; seats = taken.before }) (wait.first ∙ ap (option_map (λ j. seat_of a j (slice_index s j))) some)

      -- so that the table is as before
      holds : on_land.table ≡ Some tab
      holds =
          let all : ranked (entry_of y ∷ taken.others) ≡ ranked (waiting a s) =
          (λ z. ranked (sym (seat_is (won eligible e l) i (slice_index s i) y at) z ∷ taken.others))
          ∙ ranked_alike (seat_of a i (slice_index s i) ∷ taken.others) (waiting a s) (IsPermutation-sym _ _ taken.before) in
          ap (λ ys. Some (record { entries = a.entries; ranking = a.ranking; contents = ys })) all

      tie_ends_run : Achieves c e tied_winners state (λ after. ⊥) (EndsInListTie c eligible e base l)
      tie_ends_run =
          line_first takes
          (line_first (share_does c e now (table_of a taken.others) refl y.0 wins y.1 (winner_is e now y.0 y.1 wins winner.there) refl)
          (line_first (wland_does c e again y.1 (winner_is e again y.0 y.1 wins winner.there))
          (line_over (if_no_party (winner_is e on_land y.0 y.1 wins winner.there)
          (λ none. cc (none, winner.party))
          (λ p is_of. stops i some winner.listed (with_party (Some p) on_land) holds (ap Some winner.land) (sym is_of ∙ winner.party) left)))))

  pub ties_end : (c : CountingCode) (earlier : List ℕ) →
      EndsTied c e (listed eligible e l) (to_give eligible e base l) (meant eligible e l) (AreSeated eligible e l earlier) (EndsInListTie c eligible e base l) tied_winners
  ties_end c earlier = record {
    ends = λ s tied state settled lists waits held left choice.
        let some = first_tied (meant eligible e l) tied choice.1 in
        let peer : IsPeer (listed eligible e l).ladders s some.0 = lists.has_only some.0 some.2 in
        let found = next_winner (won eligible e l) some.0 (slice_index s some.0) peer.next in
        tie_ends_run c s tied settled lists choice some.0 found.0 found.1 some.1 peer state waits left;
  }
