-- What the plan of batches achieves: it walks from settled vector to settled vector of an arena, a seat a turn (docs/blocks.md, section 2).
use Rattle.std.specs.Prelude.{◌≡◌, ◌⊎◌, ℕ, ◌+◌, ◌<◌, ◌≤◌, true, false, List, [], ◌∷◌, length, nat_eq, sum, slice_index, Contains}
use Rattle.std.specs.List.{list_any}
use Rattle.sl_law_meaning.specs.returns.Election.{Election}
use Rattle.sl_law_meaning.specs.methods.Ties.{Lists}
use Rattle.sl_law_meaning.specs.laws.Ladders.{Has, IsPeer, IsSettled, RaisesEach}
use Rattle.sl_law_meaning.specs.laws.Walks.{MidBatch}
use Rattle.sl_code_instructions.specs.Codes.{CountingCode}
use Rattle.sl_code_semantics.specs.State.{State, with_register}
use Rattle.sl_compile_plans.specs.declared.plan.Bound.{Bound}
use Rattle.sl_compile_plans.specs.Trees.{Tree, ones}
use Rattle.sl_compile_plans.specs.Meaning.{turns_in}
use Rattle.sl_compile_plans.specs.Achieves.{Achieves, Never}
use Rattle.sl_compile_plans.specs.Frames.{may_write_register}
use Rattle.sl_compile_pieces.specs.arenas.Arenas.{Arena, IsArena, HasWaiting, seat_taken}
use Rattle.sl_compile_pieces.specs.arenas.Laws.{SeatTaken}
use Rattle.sl_compile_pieces.specs.declared.registers.TheConstants as reg
use Rattle.sl_compile_pieces.specs.awards.Trees.{batches}

-- An entry that gets a seat of a batch: from the settled vector s on, these of its peers have got theirs, the entries hold t, and u after
-- the seat.
pub record Gets (a : Arena) (s peers given t u : List ℕ) (entry : ℕ) : Type 0 where
  pub batch : MidBatch a.ladders s peers given t
  pub one_of : Contains peers entry
  pub left : ¬ Contains given entry
  pub has : Has a.ladders entry (slice_index t entry)
  pub held : slice_index t entry ≡ slice_index s entry
  pub raised : RaisesEach (entry ∷ []) t u
  pub taken : SeatTaken a entry t u

-- What a plan has to achieve that is run for each seat, in a turn, where `ones` is 1. `Begun s step` is what is known of a batch from the
-- settled vector s on, where that is what the register of steps holds; `Held t` holds of a state while the entries hold t.
pub record GivesSeats (c : CountingCode) (e : Election) (a : Arena) (most : ℕ) (Begun : List ℕ → ℕ → Type 0) (Held : List ℕ → State → Type 0)
    (on : Tree) : Type 0 where
  pub gives : (s peers given t u : List ℕ) (entry : ℕ) (state : State) (gets : Gets a s peers given t u entry) → ((i : ℕ) → slice_index u i ≤ most) →
      Begun s (state.registers reg.STEP) → state.registers ones ≡ 1 → HasWaiting a t state → Held t state →
      Achieves c e on (seat_taken e a entry (slice_index t entry) gets.taken.others state) (λ after. HasWaiting a u after × Held u after) Never

-- what holds of a state does not depend on the register
abbrev pub IsBlind : (List ℕ → State → Type 0) → ℕ → Type 0
IsBlind Held r = (t : List ℕ) (value : ℕ) (state : State) → Held t state → Held t (with_register r value state)

-- ---- batches

-- a batch has begun from t on, and the loop's register r still holds w; or there is none any more, r holds no more than w, and of t that is
-- known
pub data HasBegun (a : Arena) (r w : ℕ) (Begun : List ℕ → ℕ → Type 0) (Stopped : List ℕ → Type 0) (t : List ℕ) (state : State) : Type 0 where
  NoBatch : state.registers reg.IN_BATCH ≡ 0 → state.registers r ≤ w → Stopped t → HasBegun a r w Begun Stopped t state
  OneBegan : (peers : List ℕ) → Lists (IsPeer a.ladders t) peers → 0 < length peers → state.registers reg.IN_BATCH ≡ length peers →
      state.registers r ≡ w → Begun t (state.registers reg.STEP) → HasBegun a r w Begun Stopped t state

-- What a plan has to achieve that begins a batch, where r is the loop's register: where of so many seats in all one is left for this turn
-- and one for each turn to come, it begins one or stops for good; and once it has stopped, it begins no other. Where it begins none, it may
-- leave fewer turns to come. It leaves `ones` to the seat of the turn.
pub record BeginsBatches (c : CountingCode) (e : Election) (a : Arena) (seats r : ℕ) (Begun : List ℕ → ℕ → Type 0) (Stopped : List ℕ → Type 0)
    (Held : List ℕ → State → Type 0) (begin : Tree) : Type 0 where
  pub begins : (t : List ℕ) (state : State) → IsSettled a.ladders t → HasWaiting a t state → Held t state → state.registers reg.IN_BATCH ≡ 0 →
      sum t + 1 + state.registers r ≡ seats →
      Achieves c e begin state (λ after. HasWaiting a t after × Held t after × HasBegun a r (state.registers r) Begun Stopped t after) Never
  pub rests : (t : List ℕ) (state : State) → IsSettled a.ladders t → HasWaiting a t state → Held t state → state.registers reg.IN_BATCH ≡ 0 →
      Stopped t →
      Achieves c e begin state
      (λ after. HasWaiting a t after × Held t after × (after.registers reg.IN_BATCH ≡ 0) × (after.registers r ≤ state.registers r)) Never
  pub keeps : may_write_register begin ones ≡ false

-- where the batches end: at a settled vector of so many seats, or one that is known to be the last, or within a batch with so many seats
pub data EndOfBatches (a : Arena) (seats : ℕ) (Begun : List ℕ → ℕ → Type 0) (Stopped : List ℕ → Type 0) (t : List ℕ) (state : State) : Type 0 where
  Between : IsSettled a.ladders t → state.registers reg.IN_BATCH ≡ 0 → (sum t ≡ seats) ⊎ Stopped t → EndOfBatches a seats Begun Stopped t state
  Within : (s peers given : List ℕ) → MidBatch a.ladders s peers given t → length given + state.registers reg.IN_BATCH ≡ length peers →
      0 < state.registers reg.IN_BATCH → Begun s (state.registers reg.STEP) → sum t ≡ seats → EndOfBatches a seats Begun Stopped t state

pub record AfterBatches (a : Arena) (seats : ℕ) (Begun : List ℕ → ℕ → Type 0) (Stopped : List ℕ → Type 0) (Held : List ℕ → State → Type 0)
    (state : State) : Type 0 where
  pub t : List ℕ
  pub waiting : HasWaiting a t state
  pub held : Held t state
  pub end : EndOfBatches a seats Begun Stopped t state

-- the registers of a walk
abbrev pub walk_registers : List ℕ
walk_registers = ones ∷ reg.PEERS ∷ reg.IN_BATCH ∷ reg.STEP ∷ []

-- what is asked of a walk with this plan for each seat: the loop's register is no other's, and the plan writes none of the loop's
pub record FitsLoop (Held : List ℕ → State → Type 0) (r : ℕ) (on : Tree) : Type 0 where
  pub apart : list_any (nat_eq r) walk_registers ≡ false
  pub own : IsBlind Held r
  pub blind : (q : ℕ) → list_any (nat_eq q) (ones ∷ reg.PEERS ∷ reg.IN_BATCH ∷ []) ≡ true → IsBlind Held q
  pub on_keeps : may_write_register on r ≡ false
  pub keeps : list_any (may_write_register on) (reg.IN_BATCH ∷ reg.STEP ∷ []) ≡ false

-- from a settled vector, with a turn for each seat up to so many
abbrev pub BatchesAchieve : Type 1
BatchesAchieve =
    (c : CountingCode) (e : Election) (a : Arena) (most seats r : ℕ) (bound : Bound) (begin on : Tree) (Begun : List ℕ → ℕ → Type 0)
    (Stopped : List ℕ → Type 0) (Held : List ℕ → State → Type 0) (t : List ℕ) (state : State) → IsArena most a → seats ≤ most →
    GivesSeats c e a most Begun Held on → BeginsBatches c e a seats r Begun Stopped Held begin → FitsLoop Held r on →
    IsSettled a.ladders t → HasWaiting a t state → Held t state → state.registers r + sum t ≡ seats → state.registers r ≤ turns_in e bound →
    Achieves c e (batches r bound begin on) state (AfterBatches a seats Begun Stopped Held) Never
