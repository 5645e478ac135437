-- The last batch: no seat is left, or the lot draws the peers that get the last seats, or the peers are tied.
use Rattle.std.proofs.Common.{◌≡◌, ℕ, suc, ◌+◌, ◌<◌, ◌≤◌, List, [], ◌∷◌, length, sum, refl, ap, ◌∙◌, arith, ◌⊎◌, ◌-◌, IsTrue, sym, subst, inl, inr}
use Rattle.std.specs.Prelude.{slice_index, ◌↔◌}
use Rattle.std.proofs.lemmas.Bool.{true≢false}
use Rattle.sl_base_quotients.specs.declared.entry.Entry.{Entry}
use Rattle.sl_law_meaning.specs.returns.Election.{Election}
use Rattle.sl_law_meaning.specs.methods.Ties.{Lists, NamesAll, drawn, Decided, Tied, IsChoice}
use Rattle.sl_law_meaning.specs.laws.Awards.{DrawsNext, BatchLaws}
use Rattle.sl_law_meaning.specs.laws.Ladders.{IsPeer, RaisesEach, IsTop, IsSettled}
use Rattle.sl_law_meaning.specs.laws.Walks.{MidBatch}
use Rattle.sl_law_meaning.proofs.methods.DrawnLots.{draws, drawn_length}
use Rattle.sl_law_meaning.proofs.methods.RaisedSeats.{raise, increasing_distinct}
use Rattle.sl_law_meaning.proofs.methods.WalkProofs.{walks}
use Rattle.sl_law_meaning.proofs.methods.LadderProofs.{batches}
use Rattle.sl_code_instructions.specs.Codes.{CountingCode}
use Rattle.sl_code_instructions.specs.declared.instr.Instr.TheVariants.{Takelot}
use Rattle.sl_base_rankings.specs.Ranking.{ranked}
use Rattle.sl_base_rankings.specs.Peers.{peers, is_covered}
use Rattle.sl_code_semantics.specs.State.{State, with_register, End}
use Rattle.sl_code_semantics.specs.Drawn.{lot_of}
use Rattle.sl_compile_plans.specs.declared.plan.Test.TheVariants as test
use Rattle.sl_compile_plans.specs.declared.plan.Bound.{Bound}
use Rattle.sl_compile_plans.specs.Trees.{Tree, Line, Then, If, ones}
use Rattle.sl_compile_plans.specs.Meaning.{turns_in}
use Rattle.sl_compile_plans.specs.Achieves.{Achieves, Never}
use Rattle.sl_compile_plans.specs.Frames.{KeepsRest, may_write_register}
use Rattle.sl_compile_plans.proofs.Rules.{line_ends, if_empty, line_first, line_over, achieves_more, then_achieves, if_zero, if_not_covered, then_at, achieves_so}
use Rattle.sl_compile_plans.proofs.KeepingRules.{times_keeping, achieves_keeping, free_of}
use Rattle.sl_compile_pieces.specs.arenas.Arenas.{Arena, HasWaiting, seat_of, waiting, seat_taken}
use Rattle.sl_compile_pieces.specs.arenas.Laws.{SeatTaken, DrawnTurn, Turn}
use Rattle.sl_compile_pieces.specs.arenas.Effects.{IsWaiting, TableEffects}
use Rattle.sl_compile_pieces.proofs.arenas.Lots.{waiting_drawn, waiting_covered}
use Rattle.sl_compile_pieces.proofs.arenas.TableEffects.{waiting_effects}
use Rattle.sl_compile_pieces.proofs.arenas.Turns.{waiting_turns}
use Rattle.sl_compile_pieces.specs.declared.registers.TheConstants as reg
use Rattle.sl_compile_pieces.specs.awards.Trees.{drawn_seats, count_step, last_batch}
use Rattle.sl_compile_pieces.specs.inner.awards.Batches.{Gets, GivesSeats}
use Rattle.sl_compile_pieces.specs.inner.awards.Awards.{CanAward, IsCounted, FitsAwards, award_registers, EndsTied, AreAwarded}
use Rattle.sl_compile_pieces.proofs.awards.Turns.{raised_once, holds_at_most, same_registers}
use Rattle.sl_compile_pieces.proofs.awards.WholeBatches.{stepping, step_counted, base_within, Counts, IsLast, counts_peers, counts_stepping, counted_step}

-- ---- seats that are drawn

-- what holds of a state while so many of the last seats, from the settled vector s on, are still to be drawn, and k of them have been
pub record IsDrawing (a : Arena) (seats : ℕ) (meant : List ℕ) (Held : List ℕ → State → Type 0) (s tied : List ℕ) (w : ℕ) (state : State) : Type 0 where
  pub t : List ℕ
  pub k : ℕ
  pub number : sum s + k + w ≡ seats
  pub mid : MidBatch a.ladders s tied (drawn meant k tied) t
  pub waits : HasWaiting a t state
  pub held : Held t state
  pub counted : IsCounted a seats s (state.registers reg.STEP)

-- a seat that is drawn: the entry that gets it, and what the entries hold then
record DrawnSeat (e : Election) (a : Arena) (meant name : List ℕ) (s tied t : List ℕ) (k : ℕ) : Type 0 where
  entry : ℕ
  u : List ℕ
  turn : Turn a s tied (drawn meant k tied) t
  drawn_turn : DrawnTurn a s tied t (lot_of e a.entries name) meant k entry
  later : MidBatch a.ladders s tied (drawn meant (k + 1) tied) u
  gets : Gets a s tied (drawn meant k tied) t u entry

module _ (c : CountingCode) (e : Election) (a : Arena) (most seats n : ℕ) (meant : List ℕ) (can : CanAward c e a most seats n meant) (s tied : List ℕ) (names : NamesAll meant tied)
    (scarce : seats < sum s + length tied) where
  drawn_number : (k : ℕ) → Lists (IsPeer a.ladders s) tied → sum s + k ≤ seats → length (drawn meant k tied) ≡ k
  drawn_number k listed within = drawn_length meant k tied can.same_lot.distinct (increasing_distinct tied listed.in_order) names (omega (arith, scarce, within))

  drawn_sum : (k : ℕ) (t : List ℕ) → sum s + k ≤ seats → MidBatch a.ladders s tied (drawn meant k tied) t → sum t ≡ sum s + k
  drawn_sum k t within mid =
      let total : sum t ≡ sum s + length (drawn meant k tied) = ((walks a.ladders can.arena.falling).within s tied (drawn meant k tied) t mid).total in
      omega (arith, total, drawn_number k mid.listed within)

  drawn_few : (k : ℕ) (t : List ℕ) → sum s + k ≤ seats → MidBatch a.ladders s tied (drawn meant k tied) t → (i : ℕ) → slice_index t i ≤ most
  drawn_few k t within mid = holds_at_most most seats t (omega (arith, drawn_sum k t within mid, within)) can.few

  drawn_seat : (t : List ℕ) (k : ℕ) → sum s + k < seats → MidBatch a.ladders s tied (drawn meant k tied) t → DrawnSeat e a meant can.name s tied t k
  drawn_seat t k less mid =
      let more : k < length tied = omega (arith, less, scarce) in
      let number : length (drawn meant k tied) ≡ k = drawn_number k mid.listed (omega (arith, less)) in
      let few : (i : ℕ) → slice_index t i ≤ most = drawn_few k t (omega (arith, less)) mid in
      let next : DrawsNext meant tied k = draws meant tied k can.same_lot.distinct (increasing_distinct tied mid.listed.in_order) names more in
      let turn : DrawnTurn a s tied t (lot_of e a.entries can.name) meant k next.entry =
      waiting_drawn most a s tied t (lot_of e a.entries can.name) meant k can.arena few can.same_lot names mid more next in
      let within : next.entry < length t = omega (arith, can.arena.falling.within next.entry (slice_index t next.entry) turn.has, mid.raised.same_length, mid.settled.on.same_length) in
      let raised : (u : List ℕ) × RaisesEach (next.entry ∷ []) t u = (raise t (next.entry ∷ []), raised_once t next.entry within) in
      let goes : MidBatch a.ladders s tied (drawn meant (k + 1) tied) raised.0 × SeatTaken a next.entry t raised.0 = turn.goes raised.0 raised.1 in
      record {
        entry = next.entry;
        u = raised.0;
        turn = waiting_turns most a s tied (drawn meant k tied) t can.arena few mid (omega (arith, number, more));
        drawn_turn = turn;
        later = goes.0;
        gets = record { batch = mid; one_of = next.one_of; left = next.left; has = turn.has; held = turn.held; raised = raised.1; taken = goes.1 };
      }

  module _ (on : Tree) (Held : List ℕ → State → Type 0) (fits : FitsAwards Held on) (gives : GivesSeats c e a most (IsCounted a seats) Held on) where
    held_counted : (t : List ℕ) (w n : ℕ) (state : State) → Held t state → Held t (with_register reg.PEERS n (with_register reg.LEFT w (with_register ones 1 state)))
    held_counted t w n state h =
        let one : State = with_register ones 1 state in
        fits.blind reg.PEERS refl t n (with_register reg.LEFT w one) (fits.blind reg.LEFT refl t w one (fits.blind ones refl t 1 state h))

    module _ (w : ℕ) (state : State) (drawing : IsDrawing a seats meant Held s tied (suc w) state) (seat : DrawnSeat e a meant can.name s tied drawing.t drawing.k) (number : ℕ) where
      -- the state of the machine before the seat is taken, and where the plan for it begins
      before_seat : State
      before_seat = with_register reg.PEERS number (with_register reg.LEFT w (with_register ones 1 state))

      at_drawn : State
      at_drawn = seat_taken e a seat.entry (slice_index drawing.t seat.entry) seat.gets.taken.others before_seat

      same_step : at_drawn.registers reg.STEP ≡ state.registers reg.STEP
      unfolding at_drawn before_seat
      same_step = ap (λ (f : ℕ → ℕ). f reg.STEP) (same_registers e a.entries (slice_index a.places seat.entry) _)

      next_drawn : (after : State) → HasWaiting a seat.u after → Held seat.u after → KeepsRest on at_drawn after → IsDrawing a seats meant Held s tied w after
      next_drawn after waits held kept =
          let same : after.registers reg.STEP ≡ state.registers reg.STEP = kept.registers reg.STEP (free_of (may_write_register on) award_registers fits.keeps reg.STEP refl) ∙ same_step in
          record {
            t = seat.u;
            k = drawing.k + 1;
            number = omega arith;
            mid = seat.later;
            waits = waits;
            held = held;
            counted = record { left = drawing.counted.left; counted = same ∙ drawing.counted.counted };
          }

      take_drawn : Achieves c e (Then (Line (Takelot n ∷ [])) on) before_seat (IsDrawing a seats meant Held s tied w) Never
      unfolding at_drawn before_seat
      take_drawn =
          let t : List ℕ = drawing.t in
          let few : (i : ℕ) → slice_index t i ≤ most = drawn_few drawing.k t (omega arith) drawing.mid in
          let few_then : (i : ℕ) → slice_index seat.u i ≤ most = drawn_few (drawing.k + 1) seat.u (omega arith) seat.later in
          let effects : TableEffects c e a t before_seat = waiting_effects c e most a t before_seat can.arena few drawing.waits in
          let first : Entry = seat_of a seat.turn.entry (slice_index t seat.turn.entry) in
          let one : IsWaiting a t seat.entry seat.gets.taken.others = record { has = seat.gets.has; seats = seat.gets.taken.before } in
          line_first (effects.takes_drawn n can.name first seat.entry seat.gets.taken.others one can.named seat.turn.first seat.drawn_turn.draws)
          (line_over (achieves_keeping
          (gives.gives s tied (drawn meant drawing.k tied) t seat.u seat.entry before_seat seat.gets few_then drawing.counted refl drawing.waits (held_counted t w number state drawing.held))
          (λ after h kept. next_drawn after h.0 h.1 kept)))

    draw_turn : (w : ℕ) (state : State) → IsDrawing a seats meant Held s tied (suc w) state
        → Achieves c e (If (test.Empty reg.PEERS) (Line []) (Then (Line (Takelot n ∷ [])) on)) (with_register reg.LEFT w (with_register ones 1 state))
        (IsDrawing a seats meant Held s tied w) Never
    unfolding before_seat
    draw_turn w state drawing =
        let seat : DrawnSeat e a meant can.name s tied drawing.t drawing.k = drawn_seat drawing.t drawing.k (omega arith) drawing.mid in
        if_empty drawing.waits
        (λ none. line_ends (absurd (let some : 0 < length (peers (ranked (waiting a drawing.t))) = seat.turn.some in omega (arith, some, none))))
        (λ many is. take_drawn w state drawing seat (suc many))

    -- as many seats as are left are drawn
    pub seats_drawn : (bound : Bound) (state : State) → state.registers reg.LEFT ≤ turns_in e bound → IsDrawing a seats meant Held s tied (state.registers reg.LEFT) state
        → Achieves c e (drawn_seats n bound on) state (IsDrawing a seats meant Held s tied 0) Never
    seats_drawn bound state within first =
        times_keeping (IsDrawing a seats meant Held s tied) refl (free_of (may_write_register on) award_registers fits.keeps reg.LEFT refl) within first (λ w t is drawing. draw_turn w t drawing) (λ t is last. last)

-- ---- the last batch

module _ (c : CountingCode) (e : Election) (a : Arena) (most seats n : ℕ) (meant : List ℕ) (can : CanAward c e a most seats n meant) (tie on : Tree) (Held : List ℕ → State → Type 0)
    (E : End → Type 0) (fits : FitsAwards Held on) (gives : GivesSeats c e a most (IsCounted a seats) Held on) (ends : EndsTied c e a seats meant Held E tie) (s : List ℕ)
    (settled : IsSettled a.ladders s) where
  -- no seat is left
  all_given : (state : State) → sum s ≡ seats → Held s state → AreAwarded a seats meant Held state
  all_given state all held = search
      (subst (λ (k : ℕ). IsChoice (IsTop a.ladders k) meant (Decided s)) all (((batches a.ladders can.arena.falling).settled s settled).choice meant))

  module _ (tied : List ℕ) (listed : Lists (IsPeer a.ladders s) tied) (less : sum s < seats) (scarce : seats < sum s + length tied) where
    laws : BatchLaws a.ladders s tied
    laws = (batches a.ladders can.arena.falling).batch s tied settled listed

    few : (i : ℕ) → slice_index s i ≤ most
    few = holds_at_most most seats s (omega (arith, less)) can.few

    begun : MidBatch a.ladders s tied [] s
    begun = (walks a.ladders can.arena.falling).begin s tied settled listed

    first_turn : Turn a s tied [] s
    first_turn = waiting_turns most a s tied [] s can.arena few begun (omega (arith, less, scarce))

    -- ---- the lot names all peers

    are_drawn : NamesAll meant tied → (state : State) → IsDrawing a seats meant Held s tied 0 state → AreAwarded a seats meant Held state
    are_drawn names state last =
        let same : sum s + last.k ≡ seats = omega arith in
        record {
          s = last.t;
          choice = subst (λ (k : ℕ). IsChoice (IsTop a.ladders k) meant (Decided last.t)) same
              (laws.drawn_ones last.k (omega (arith, same, less)) (omega (arith, same, scarce)) meant can.same_lot.distinct names last.t last.mid.raised);
          held = last.held;
        }

    draw_first : NamesAll meant tied → (state : State) → HasWaiting a s state → Counts a seats Held s state → IsDrawing a seats meant Held s tied (state.registers reg.LEFT) (stepping state)
    draw_first names state waits counts = search (
      arith,
      (counts_stepping c e a most seats on Held fits s state counts).held,
      counted_step c e a most seats on Held fits s state settled less can.countable counts,
    )

    draw_all : (bound : Bound) (state : State) → NamesAll meant tied → HasWaiting a s state → Counts a seats Held s state → state.registers reg.LEFT ≤ turns_in e bound
        → Achieves c e (Then (Line count_step) (drawn_seats n bound on)) state (AreAwarded a seats meant Held) E
    draw_all bound state names waits counts within =
        then_at (step_counted refl)
        (achieves_more (seats_drawn c e a most seats n meant can s tied names scarce on Held fits gives bound (stepping state) within (draw_first names state waits counts))
        (λ after last. are_drawn names after last) (λ x never. absurd never))

    -- ---- it does not

    tied_choice : ¬ NamesAll meant tied → IsChoice (IsTop a.ladders seats) meant (Tied (seats - sum s) tied)
    tied_choice none =
        let same : sum s + (seats - sum s) ≡ seats = omega (arith, less) in
        subst (λ (k : ℕ). IsChoice (IsTop a.ladders k) meant (Tied (seats - sum s) tied)) same (laws.tied_ones (seats - sum s) (omega (arith, less)) (omega (arith, less, scarce)) meant none)

    covered : IsTrue (is_covered (lot_of e a.entries can.name) (ranked (waiting a s))) ↔ NamesAll meant tied
    covered = waiting_covered most a s tied (lot_of e a.entries can.name) meant can.arena few listed can.same_lot

    ask_lot : (state : State) → HasWaiting a s state → Counts a seats Held s state
        → Achieves c e (If (test.Empty reg.PEERS) (Line []) (If (test.NotCovered n) tie (Line []))) state (λ v. HasWaiting a s v × Counts a seats Held s v × NamesAll meant tied) E
    ask_lot state waits counts =
        if_empty waits
        (λ none. line_ends (absurd (let some : 0 < length (peers (ranked (waiting a s))) = first_turn.some in omega (arith, some, none))))
        (λ many is.
        let counted : State = with_register reg.PEERS (suc many) state in
        let now : Counts a seats Held s counted = counts_peers c e a most seats on Held fits s (suc many) state counts in
        if_not_covered waits first_turn.first can.named
        (λ open_lot.
        let choice : IsChoice (IsTop a.ladders seats) meant (Tied (seats - sum s) tied) = tied_choice (λ names. true≢false (sym (covered.1 names) ∙ open_lot)) in
        achieves_so (ends.ends s tied counted settled listed waits now.held (omega (arith, now.left)) choice) (λ v never. absurd never))
        (λ all. line_ends (waits, now, covered.0 all)))

  pub last_awarded : (bound : Bound) (state : State) → seats - sum a.ladders.base ≤ turns_in e bound → HasWaiting a s state → Counts a seats Held s state
      → (sum s ≡ seats) ⊎ IsLast a seats s → Achieves c e (last_batch n bound tie on) state (AreAwarded a seats meant Held) E
  last_awarded bound state within waits counts end =
      let found : (tied : List ℕ) × Lists (IsPeer a.ladders s) tied = (batches a.ladders can.arena.falling).peers s in
      if_zero
      (λ none. line_ends (all_given state (omega (arith, none, counts.left)) counts.held))
      (λ w some.
      elim end [
        | inl all ↦ absurd (omega (arith, some, all, counts.left))
        | inr last ↦
            (let less : sum s < seats = omega (arith, some, counts.left) in
            let scarce : seats < sum s + length found.0 = last.scarce found.0 found.1 in
            then_achieves {Q = λ v. HasWaiting a s v × Counts a seats Held s v × NamesAll meant found.0} (ask_lot found.0 found.1 less scarce state waits counts)
            (λ v h. draw_all found.0 found.1 less scarce bound v h.2 h.0 h.1 (omega (arith, within, h.1.left, base_within a.ladders s settled))))
      ])
