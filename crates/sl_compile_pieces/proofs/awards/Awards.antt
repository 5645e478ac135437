-- The plan of awards: whole batches, and then the last one.
use Rattle.std.proofs.Common.{◌≡◌, ℕ, ◌+◌, ◌-◌, ◌<◌, ◌≤◌, List, length, sum, refl, arith}
use Rattle.sl_law_meaning.specs.returns.Election.{Election}
use Rattle.sl_law_meaning.specs.laws.Ladders.{IsSettled}
use Rattle.sl_law_meaning.specs.laws.Walks.{MidBatch}
use Rattle.sl_law_meaning.proofs.methods.LadderProofs.{batches}
use Rattle.sl_law_meaning.proofs.methods.WalkProofs.{walks}
use Rattle.sl_code_instructions.specs.Codes.{CountingCode}
use Rattle.sl_code_semantics.specs.State.{State, End, with_register}
use Rattle.sl_compile_plans.specs.declared.plan.Bound.{Bound}
use Rattle.sl_compile_plans.specs.Trees.{Tree}
use Rattle.sl_compile_plans.specs.Meaning.{turns_in}
use Rattle.sl_compile_plans.specs.Achieves.{Achieves, Never}
use Rattle.sl_compile_plans.proofs.Rules.{then_achieves, goes_as, achieves_never}
use Rattle.sl_compile_pieces.specs.arenas.Arenas.{Arena, HasWaiting}
use Rattle.sl_compile_pieces.specs.declared.registers.TheConstants as reg
use Rattle.sl_compile_pieces.specs.awards.Trees.{awards, whole_batch, counted_seat, last_batch}
use Rattle.sl_compile_pieces.specs.awards.Trees as plan
use Rattle.sl_compile_pieces.specs.inner.awards.Batches.{GivesSeats, EndOfBatches, Between, Within, AfterBatches}
use Rattle.sl_compile_pieces.specs.inner.awards.Awards.{CanAward, IsCounted, EndsTied, FitsAwards, AreAwarded, AwardsAchieve}
use Rattle.sl_compile_pieces.proofs.awards.Batches.{batches_achieve}
use Rattle.sl_compile_pieces.proofs.awards.WholeBatches.{Counts, IsWhole, IsLast, gives_counted, begins_whole, fits_whole}
use Rattle.sl_compile_pieces.proofs.awards.LastBatch.{last_awarded}

module _ (c : CountingCode) (e : Election) (a : Arena) (most seats n : ℕ) (meant : List ℕ) (can : CanAward c e a most seats n meant) (tie on : Tree) (Held : List ℕ → State → Type 0)
    (E : End → Type 0) (fits : FitsAwards Held on) (gives : GivesSeats c e a most (IsCounted a seats) Held on) (ends : EndsTied c e a seats meant Held E tie) (bound : Bound)
    (within : seats - sum a.ladders.base ≤ turns_in e bound) where
  -- within a whole batch there are seats left
  still_left : (s tied given t : List ℕ) (rest : ℕ) → MidBatch a.ladders s tied given t → length given + rest ≡ length tied → 0 < rest → sum s + length tied ≤ seats
      → sum t ≡ seats → ⊥
  still_left s tied given t rest mid long some enough all =
      omega (arith, ((walks a.ladders can.arena.falling).within s tied given t mid).total, long, some, enough, all)

  end_awarded : (t : List ℕ) (state : State) → HasWaiting a t state → Counts a seats Held t state → EndOfBatches a seats (IsWhole a seats) (IsLast a seats) t state
      → Achieves c e (last_batch n bound tie on) state (AreAwarded a seats meant Held) E
  end_awarded t state waits counts (Between settled none end) = last_awarded c e a most seats n meant can tie on Held E fits gives ends t settled bound state within waits counts end
  end_awarded t state waits counts (Within s tied given mid long some begun all) =
      absurd (still_left s tied given t (state.registers reg.IN_BATCH) mid long some (begun.enough tied mid.listed) all)

  -- the state in which the batches begin
  set_out : State → State
  set_out state = with_register reg.TURNS (state.registers reg.LEFT) (with_register reg.ALL_LEFT (state.registers reg.LEFT) state)

  counts_first : (state : State) → Held a.ladders.base state → state.registers reg.LEFT ≡ seats - sum a.ladders.base → Counts a seats Held a.ladders.base (set_out state)
  unfolding set_out
  counts_first state held all =
      let base : List ℕ = a.ladders.base in
      let first : State = with_register reg.ALL_LEFT (state.registers reg.LEFT) state in
      let left : state.registers reg.LEFT + sum base ≡ seats = omega (arith, all, can.enough) in
      record { held = fits.blind reg.TURNS refl base _ first (fits.blind reg.ALL_LEFT refl base _ state held); left = left; all_left = left }

  all_awarded : (state : State) → HasWaiting a a.ladders.base state → Held a.ladders.base state → state.registers reg.LEFT ≡ seats - sum a.ladders.base
      → Achieves c e (awards n bound tie on) state (AreAwarded a seats meant Held) E
  unfolding set_out
  all_awarded state waits held all =
      let base : List ℕ = a.ladders.base in
      let begin : IsSettled a.ladders base = (batches a.ladders can.arena.falling).begin in
      let counts : Counts a seats Held base (set_out state) = counts_first state held all in
      let walked : Achieves c e (plan.batches reg.TURNS bound whole_batch (counted_seat on)) (set_out state) (AfterBatches a seats (IsWhole a seats) (IsLast a seats) (Counts a seats Held)) Never =
      batches_achieve c e a most seats reg.TURNS bound whole_batch (counted_seat on) (IsWhole a seats) (IsLast a seats) (Counts a seats Held) base (set_out state) can.arena can.few
      (gives_counted c e a most seats on Held fits can.arena gives) (begins_whole c e a most seats on Held fits can.arena can.room can.few)
      (fits_whole c e a most seats on Held fits) begin waits counts counts.left (omega (arith, all, within)) in
      goes_as {t = set_out state}
      (then_achieves {Q = AfterBatches a seats (IsWhole a seats) (IsLast a seats) (Counts a seats Held)} (achieves_never walked)
      (λ after h. end_awarded h.t after h.waiting h.held h.end))
      refl

pub awards_achieve : AwardsAchieve
awards_achieve c e a most seats n meant bound tie on Held E state can gives ends fits waits held all within =
    all_awarded c e a most seats n meant can tie on Held E fits gives ends bound (omega (arith, all, within)) state waits held all
