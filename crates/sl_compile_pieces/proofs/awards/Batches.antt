-- The plan of batches walks from settled vector to settled vector, a seat a turn.
use Rattle.std.proofs.Common.{◌≡◌, ◌≢◌, ℕ, zero, suc, ◌+◌, ◌<◌, ◌≤◌, false, List, [], ◌∷◌, length, sum, refl, sym, subst, inl, inr, arith, true, ◌∙◌}
use Rattle.std.specs.List.{list_any}
use Rattle.std.specs.Prelude.{nat_eq}
use Rattle.std.proofs.lemmas.Bool.{eq-eqb, false≢true}
use Rattle.sl_law_meaning.specs.returns.Election.{Election}
use Rattle.sl_law_meaning.specs.laws.Ladders.{IsSettled}
use Rattle.sl_law_meaning.specs.laws.Walks.{MidBatch}
use Rattle.sl_law_meaning.proofs.methods.WalkProofs.{walks}
use Rattle.sl_code_instructions.specs.Codes.{CountingCode}
use Rattle.sl_code_semantics.specs.State.{State, with_register}
use Rattle.sl_code_semantics.proofs.effects.Storing.{register_same, register_other}
use Rattle.sl_compile_plans.specs.declared.plan.Test.TheVariants as test
use Rattle.sl_compile_plans.specs.declared.plan.Bound.{Bound}
use Rattle.sl_compile_plans.specs.Trees.{Tree, Line, If, Times, ones}
use Rattle.sl_compile_plans.specs.Meaning.{turns_in}
use Rattle.sl_compile_plans.specs.Achieves.{Achieves, Never}
use Rattle.sl_compile_plans.specs.Frames.{may_write_register}
use Rattle.sl_compile_plans.proofs.Rules.{line_ends, then_achieves, if_zero, goes_as, then_at, achieves_so, times_achieves}
use Rattle.sl_compile_plans.proofs.KeepingRules.{achieves_keeping, free_of}
use Rattle.sl_compile_pieces.specs.arenas.Arenas.{Arena, IsArena, HasWaiting}
use Rattle.sl_compile_pieces.specs.declared.registers.TheConstants as reg
use Rattle.sl_compile_pieces.specs.awards.Trees.{one_seat, batch_turn, batches}
use Rattle.sl_compile_pieces.specs.inner.awards.Batches.{GivesSeats, HasBegun, NoBatch, OneBegan, BeginsBatches, Between, Within, EndOfBatches, AfterBatches, FitsLoop, BatchesAchieve, walk_registers}
use Rattle.sl_compile_pieces.proofs.awards.Turns.{SeatGiven, gives_seat}

-- Where the plan stands with w turns to come, when the entries hold t: between batches, within one, or after the last one. So many seats
-- of the batch are left, with that step.
pub data StandsAt (a : Arena) (seats : ℕ) (Begun : List ℕ → ℕ → Type 0) (Stopped : List ℕ → Type 0) (w : ℕ) (t : List ℕ) (left step : ℕ) : Type 0 where
  BetweenBatches : IsSettled a.ladders t → left ≡ 0 → w + sum t ≡ seats → StandsAt a seats Begun Stopped w t left step
  WithinBatch : (s peers given : List ℕ) → MidBatch a.ladders s peers given t → length given + left ≡ length peers → 0 < left → Begun s step → w + sum t ≡ seats
      → StandsAt a seats Begun Stopped w t left step
  BehindLast : IsSettled a.ladders t → left ≡ 0 → Stopped t → StandsAt a seats Begun Stopped w t left step

-- the invariant of the loop, with w turns to come
pub record BeforeTurn (a : Arena) (seats : ℕ) (Begun : List ℕ → ℕ → Type 0) (Stopped : List ℕ → Type 0) (Held : List ℕ → State → Type 0) (w : ℕ) (state : State) : Type 0 where
  pub t : List ℕ
  pub waits : HasWaiting a t state
  pub held : Held t state
  pub turn : StandsAt a seats Begun Stopped w t (state.registers reg.IN_BATCH) (state.registers reg.STEP)

-- the second half of a turn: a seat, where a batch is under way
abbrev seat_half : Tree → Tree
seat_half on = If (test.Zero reg.IN_BATCH) (Line []) (one_seat on)

-- it does not write the loop's register
keeps_turns : (Held : List ℕ → State → Type 0) (r : ℕ) (on : Tree) → FitsLoop Held r on → may_write_register (seat_half on) r ≡ false
keeps_turns Held r on fits =
    rw (fits.on_keeps, free_of (nat_eq r) walk_registers fits.apart reg.PEERS refl, free_of (nat_eq r) walk_registers fits.apart reg.IN_BATCH refl) refl

module _ (c : CountingCode) (e : Election) (a : Arena) (most seats r : ℕ) (begin on : Tree)
    (Begun : List ℕ → ℕ → Type 0) (Stopped : List ℕ → Type 0) (Held : List ℕ → State → Type 0)
    (arena : IsArena most a) (within : seats ≤ most) (gives : GivesSeats c e a most Begun Held on)
    (begins : BeginsBatches c e a seats r Begun Stopped Held begin) (fits : FitsLoop Held r on) where
  -- what is known with so many turns to come
  abbrev Before : ℕ → State → Type 0
  Before = BeforeTurn a seats Begun Stopped Held

  -- after a turn that began with so many to come: no more are to come, and what is known with as many as are
  abbrev Turned : ℕ → State → Type 0
  Turned w state = (state.registers r ≤ w) × Before (state.registers r) state

  -- other registers are not the loop's
  apart : (q : ℕ) → list_any (nat_eq q) walk_registers ≡ true → q ≢ r
  apart q there same = false≢true (sym (free_of (nat_eq r) walk_registers fits.apart q there) ∙ eq-eqb r q (sym same))

  -- the count of a turn changes nothing of it
  counted : (w : ℕ) (state : State) → Before (suc w) state → Before (suc w) (with_register r w (with_register ones 1 state))
  counted w state h =
      let one : State = with_register ones 1 state in
      let batch : (with_register r w one).registers reg.IN_BATCH ≡ state.registers reg.IN_BATCH = register_other one r w reg.IN_BATCH (apart reg.IN_BATCH refl) in
      record {
        t = h.t;
        waits = h.waits;
        held = fits.own h.t w one (fits.blind ones refl h.t 1 state h.held);
        turn = rw (batch, register_other one r w reg.STEP (apart reg.STEP refl)) h.turn;
      }

  -- after a seat of a batch of which n are left, the batch goes on or is over
  seat_over : (w n number : ℕ) (s peers given t : List ℕ) (state : State) → suc w + sum t ≡ seats → length given + suc n ≡ length peers → Begun s number
      → SeatGiven a Held s peers given t n number state → Before w state
  seat_over w zero number s peers given t state many left begun h =
      let all = ((walks a.ladders arena.falling).within s peers (h.entry ∷ given) h.u h.mid).all (omega (arith, left)) in
      record { t = h.u; waits = h.after.waits; held = h.after.held; turn = BetweenBatches all.1 h.after.left (omega (arith, many, h.total)) }
  seat_over w (suc n) number s peers given t state many left begun h =
      let rest : length (h.entry ∷ given) + state.registers reg.IN_BATCH ≡ length peers = omega (arith, left, h.after.left) in
      let some : 0 < state.registers reg.IN_BATCH = omega (arith, h.after.left) in
      record {
        t = h.u;
        waits = h.after.waits;
        held = h.after.held;
        turn = WithinBatch s peers (h.entry ∷ given) h.mid rest some (subst (Begun s) (sym h.after.step) begun) (omega (arith, many, h.total));
      }

  -- ---- the second half of a turn, where a batch is under way, and where there is none
  seat_turn : (w : ℕ) (s peers given t : List ℕ) (state : State) → suc w + sum t ≡ seats → MidBatch a.ladders s peers given t → length given + state.registers reg.IN_BATCH ≡ length peers
      → 0 < state.registers reg.IN_BATCH → Begun s (state.registers reg.STEP) → state.registers ones ≡ 1 → HasWaiting a t state → Held t state
      → Achieves c e (seat_half on) state (Before w) Never
  seat_turn w s peers given t state many mid left some begun one waits held =
      if_zero (λ none. absurd (omega (arith, some, none)))
      (λ n is.
      let rest : length given + suc n ≡ length peers = omega (arith, left, is) in
      achieves_so (gives_seat c e a Held r on fits most Begun arena gives seats n s peers given t state within (omega (arith, many)) mid rest begun one waits held is)
      (λ v h. seat_over w n (state.registers reg.STEP) s peers given t v many rest begun h))

  -- the second half leaves as many turns to come as there were
  as_many_turns : (w : ℕ) (state : State) → state.registers r ≡ w → Achieves c e (seat_half on) state (Before w) Never → Achieves c e (seat_half on) state (Turned w) Never
  as_many_turns w state is h =
      achieves_keeping h
      (λ after before kept.
      let same : after.registers r ≡ w = kept.registers r (keeps_turns Held r on fits) ∙ is in
      (omega (arith, same), subst (λ (n : ℕ). Before n after) (sym same) before))

  idle_turn : (w : ℕ) (t : List ℕ) (state : State) → IsSettled a.ladders t → Stopped t → HasWaiting a t state → Held t state → state.registers reg.IN_BATCH ≡ 0
      → state.registers r ≤ w → Achieves c e (seat_half on) state (Turned w) Never
  idle_turn w t state settled stopped waits held none low =
      if_zero (λ is. line_ends (low, record { t = t; waits = waits; held = held; turn = BehindLast settled is stopped }))
      (λ n is. absurd (omega (arith, none, is)))

  -- after the first half of a turn that found no batch under way
  begun_turn : (w : ℕ) (t : List ℕ) (state : State) → suc w + sum t ≡ seats → IsSettled a.ladders t → HasWaiting a t state → Held t state → HasBegun a r w Begun Stopped t state
      → state.registers ones ≡ 1 → Achieves c e (seat_half on) state (Turned w) Never
  begun_turn w t state many settled waits held (NoBatch none low stopped) one = idle_turn w t state settled stopped waits held none low
  begun_turn w t state many settled waits held (OneBegan peers listed some all is begun) one =
      as_many_turns w state is
      (seat_turn w t peers [] t state many ((walks a.ladders arena.falling).begin t peers settled listed) (omega (arith, all)) (omega (arith, some, all)) begun one waits held)

  -- ---- a turn
  turn_goes : (w : ℕ) (t : List ℕ) (state : State) → state.registers r ≡ w → state.registers ones ≡ 1 → HasWaiting a t state → Held t state
      → StandsAt a seats Begun Stopped (suc w) t (state.registers reg.IN_BATCH) (state.registers reg.STEP)
      → Achieves c e (batch_turn begin on) state (Turned w) Never
  turn_goes w t state turns one waits held (BetweenBatches settled none many) =
      then_achieves {Q = λ v. HasWaiting a t v × Held t v × HasBegun a r (state.registers r) Begun Stopped t v × (v.registers ones ≡ 1)}
      (if_zero
      (λ is. achieves_keeping (begins.begins t state settled waits held is (omega (arith, many, turns))) (λ v h kept. (h.0, h.1, h.2, kept.registers ones begins.keeps ∙ one)))
      (λ n is. absurd (omega (arith, none, is))))
      (λ v h. begun_turn w t v many settled h.0 h.1 (subst (λ (n : ℕ). HasBegun a r n Begun Stopped t v) turns h.2) h.3)
  turn_goes w t state turns one waits held (WithinBatch s peers given mid left some begun many) =
      then_at (if_zero (λ is. absurd (omega (arith, some, is))) (λ n is. line_ends refl))
      (as_many_turns w state turns (seat_turn w s peers given t state many mid left some begun one waits held))
  turn_goes w t state turns one waits held (BehindLast settled none stopped) =
      then_achieves {Q = λ v. HasWaiting a t v × Held t v × (v.registers reg.IN_BATCH ≡ 0) × (v.registers r ≤ state.registers r)}
      (if_zero (λ is. begins.rests t state settled waits held is stopped) (λ n is. absurd (omega (arith, none, is))))
      (λ v h. idle_turn w t v settled stopped h.0 h.1 h.2 (omega (arith, h.3, turns)))

  -- ---- all turns
  ends_so : (t : List ℕ) (state : State) → StandsAt a seats Begun Stopped 0 t (state.registers reg.IN_BATCH) (state.registers reg.STEP) → EndOfBatches a seats Begun Stopped t state
  ends_so t state (BetweenBatches settled none many) = Between settled none (inl (omega (arith, many)))
  ends_so t state (WithinBatch s peers given mid left some begun many) = Within s peers given mid left some begun (omega (arith, many))
  ends_so t state (BehindLast settled none stopped) = Between settled none (inr stopped)

  all_turns : (bound : Bound) (state : State) → state.registers r ≤ turns_in e bound → Before (state.registers r) state
      → Achieves c e (Times r bound (batch_turn begin on)) state (AfterBatches a seats Begun Stopped Held) Never
  all_turns bound state few first =
      times_achieves Before (free_of (nat_eq r) walk_registers fits.apart ones refl) few first
      (λ w u is h.
      let one : State = with_register ones 1 u in
      let here : Before (suc w) (with_register r w one) = counted w u h in
      turn_goes w here.t (with_register r w one) (register_same one r w) (register_other one r w ones (apart ones refl)) here.waits here.held here.turn)
      (λ u is h. record { t = h.t; waiting = h.waits; held = h.held; end = ends_so h.t u h.turn })

  all_batches : (bound : Bound) (t : List ℕ) (state : State) → IsSettled a.ladders t → HasWaiting a t state → Held t state
      → state.registers r + sum t ≡ seats → state.registers r ≤ turns_in e bound
      → Achieves c e (batches r bound begin on) state (AfterBatches a seats Begun Stopped Held) Never
  all_batches bound t state settled waits held many few =
      let none : State = with_register reg.IN_BATCH 0 state in
      let same : none.registers r ≡ state.registers r = register_other state reg.IN_BATCH 0 r (λ is. apart reg.IN_BATCH refl (sym is)) in
      let first : Before (none.registers r) none = record {
        t = t;
        waits = waits;
        held = fits.blind reg.IN_BATCH refl t 0 state held;
        turn = BetweenBatches settled refl (omega (arith, same, many));
      } in
      goes_as (all_turns bound none (omega (arith, same, few)) first) refl

-- it speaks of all relations, so it is of Type 1 and cannot be a function's contract: it stays a lemma
pub batches_achieve : BatchesAchieve
batches_achieve c e a most seats r bound begin on Begun Stopped Held t state arena within gives begins fits settled waits held many few =
    all_batches c e a most seats r begin on Begun Stopped Held arena within gives begins fits bound t state settled waits held many few
