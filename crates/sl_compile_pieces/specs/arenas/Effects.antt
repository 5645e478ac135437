-- What the machine's instructions do where next seats wait in its table: each law is the contract of a function of `laws`.
use Rattle.std.specs.Prelude.{◌≡◌, ℕ, ◌≤◌, List, ◌∷◌, Some, length, slice_index, IsPermutation}
use Rattle.sl_base_quotients.specs.declared.entry.Entry.{Entry}
use Rattle.sl_law_meaning.specs.returns.Election.{Election}
use Rattle.sl_law_meaning.specs.methods.Ties.{Lists}
use Rattle.sl_law_meaning.specs.laws.Ladders.{Has, IsPeer}
use Rattle.sl_code_instructions.specs.declared.instr.Instr.TheVariants as instr
use Rattle.sl_code_instructions.specs.Codes.{CountingCode}
use Rattle.sl_base_rankings.specs.Ranking.{ranked}
use Rattle.sl_base_rankings.specs.Peers.{top}
use Rattle.sl_base_rankings.specs.Lot.{drawn}
use Rattle.sl_code_semantics.specs.State.{State}
use Rattle.sl_code_semantics.specs.Drawn.{lot_of}
use Rattle.sl_code_semantics.specs.Effects.{Goes, counts_peers, name_of, effect, with_table, with_entry}
use Rattle.sl_compile_pieces.specs.arenas.Arenas.{Arena, IsArena, HasWaiting, seat_of, waiting, table_of, seat_taken}
use Rattle.sl_compile_pieces.specs.arenas.Laws.{SeatTaken}

-- of the seats that wait, one is entry i's, and these are the others
pub record IsWaiting (a : Arena) (t : List ℕ) (i : ℕ) (others : List Entry) : Type 0 where
  pub has : Has a.ladders i (slice_index t i)
  pub seats : IsPermutation (waiting a t) (seat_of a i (slice_index t i) ∷ others)

-- what the instructions on the table do in a state where the next seats wait in it
pub record TableEffects (c : CountingCode) (e : Election) (a : Arena) (t : List ℕ) (state : State) : Type 0 where
  -- `peers` counts the peers of the ladders
  pub counts : (tied : List ℕ) → Lists (IsPeer a.ladders t) tied → (r target : ℕ) →
      effect c e (instr.Peers r target) state ≡ counts_peers r (length tied) state
  -- `take` takes the top
  pub takes : (i : ℕ) (others : List Entry) → IsWaiting a t i others →
      top (ranked (waiting a t)) ≡ Some (seat_of a i (slice_index t i)) →
      effect c e instr.Take state ≡ Goes (seat_taken e a i (slice_index t i) others state)
  -- `takelot` takes what the lot draws
  pub takes_drawn : (n : ℕ) (name : List ℕ) (first : Entry) (i : ℕ) (others : List Entry) → IsWaiting a t i others →
      name_of c.stages n ≡ Some name → top (ranked (waiting a t)) ≡ Some first →
      drawn (lot_of e a.entries name) (ranked (waiting a t)) ≡ Some (seat_of a i (slice_index t i)) →
      effect c e (instr.Takelot n) state ≡ Goes (seat_taken e a i (slice_index t i) others state)
  -- and leaves the others
  pub leaves : (i held : ℕ) (others : List Entry) → (seat_taken e a i held others state).table ≡ Some (table_of a others)

abbrev pub WaitingEffects : Type 0
WaitingEffects =
    (c : CountingCode) (e : Election) (most : ℕ) (a : Arena) (t : List ℕ) (state : State) → IsArena most a →
    ((i : ℕ) → slice_index t i ≤ most) → HasWaiting a t state → TableEffects c e a t state

-- after a seat is taken, the next seats wait again once the entry's next one is entered, or at once if there is none
pub record WaitsAgain (a : Arena) (i : ℕ) (u : List ℕ) (others : List Entry) (state : State) : Type 0 where
  pub entered : Has a.ladders i (slice_index u i) →
      HasWaiting a u (with_table (with_entry (seat_of a i (slice_index u i)) (table_of a others)) state)
  pub ended : ¬ Has a.ladders i (slice_index u i) → HasWaiting a u state

abbrev pub WaitingAgain : Type 0
WaitingAgain =
    (a : Arena) (i : ℕ) (t u : List ℕ) (state : State) → (taken : SeatTaken a i t u) → state.table ≡ Some (table_of a taken.others) →
    WaitsAgain a i u taken.others state
