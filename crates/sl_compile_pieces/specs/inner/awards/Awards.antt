-- What the plan of awards achieves: the choice that the stage's lot makes among the tops of an arena, or the tie that it leaves
-- (docs/blocks.md, section 2).
use Rattle.std.specs.Prelude.{◌≡◌, ℕ, ◌+◌, ◌-◌, ◌<◌, ◌≤◌, true, false, List, [], ◌∷◌, Some, nat_eq, sum}
use Rattle.std.specs.List.{list_any}
use Rattle.sl_law_meaning.specs.returns.Election.{Election}
use Rattle.sl_law_meaning.specs.methods.Ties.{Lists, Decided, Tied, IsChoice}
use Rattle.sl_law_meaning.specs.laws.Ladders.{IsPeer, IsSettled, IsTop, HasRoom}
use Rattle.sl_code_instructions.specs.Codes.{CountingCode}
use Rattle.sl_code_semantics.specs.State.{State, End}
use Rattle.sl_code_semantics.specs.Drawn.{lot_of}
use Rattle.sl_code_semantics.specs.Effects.{name_of}
use Rattle.sl_code_semantics.specs.Effects as machine
use Rattle.sl_code_semantics.specs.SameLots.{SameLot}
use Rattle.sl_compile_plans.specs.declared.plan.Bound.{Bound}
use Rattle.sl_compile_plans.specs.Trees.{Tree, ones}
use Rattle.sl_compile_plans.specs.Meaning.{turns_in}
use Rattle.sl_compile_plans.specs.Achieves.{Achieves}
use Rattle.sl_compile_plans.specs.Frames.{may_write_register}
use Rattle.sl_compile_pieces.specs.arenas.Arenas.{Arena, IsArena, HasWaiting}
use Rattle.sl_compile_pieces.specs.declared.registers.TheConstants as reg
use Rattle.sl_compile_pieces.specs.awards.Trees.{awards}
use Rattle.sl_compile_pieces.specs.inner.awards.Batches.{GivesSeats, IsBlind}

-- seats up to so many can be awarded in the arena, and counted in a register, by a lot that the machine and the meaning draw alike
pub record CanAward (c : CountingCode) (e : Election) (a : Arena) (most seats n : ℕ) (meant : List ℕ) : Type 0 where
  pub arena : IsArena most a
  pub few : seats ≤ most
  pub countable : seats ≤ machine.most
  pub enough : sum a.ladders.base ≤ seats
  pub room : HasRoom a.ladders seats
  pub name : List ℕ
  pub named : name_of c.stages n ≡ Some name
  pub same_lot : SameLot (lot_of e a.entries name) meant a.places

-- a batch from the settled vector s on, of seats that are left, and their step
pub record IsCounted (a : Arena) (seats : ℕ) (s : List ℕ) (step : ℕ) : Type 0 where
  pub left : sum s < seats
  pub counted : step ≡ 1 + (sum s - sum a.ladders.base)

-- what a plan has to achieve that is run where the lot leaves a tie: it ends the run
pub record EndsTied (c : CountingCode) (e : Election) (a : Arena) (seats : ℕ) (meant : List ℕ) (Held : List ℕ → State → Type 0) (E : End → Type 0)
    (tie : Tree) : Type 0 where
  pub ends : (s tied : List ℕ) (state : State) → IsSettled a.ladders s → Lists (IsPeer a.ladders s) tied → HasWaiting a s state → Held s state →
      state.registers reg.LEFT ≡ seats - sum s → IsChoice (IsTop a.ladders seats) meant (Tied (seats - sum s) tied) →
      Achieves c e tie state (λ after. ⊥) E

-- the registers of the awards
abbrev pub award_registers : List ℕ
award_registers = reg.LEFT ∷ reg.ALL_LEFT ∷ reg.TURNS ∷ reg.IN_BATCH ∷ reg.STEP ∷ []

-- what is asked of the plan for a seat, and of what holds while seats are awarded: neither touches these registers
pub record FitsAwards (Held : List ℕ → State → Type 0) (on : Tree) : Type 0 where
  pub keeps : list_any (may_write_register on) award_registers ≡ false
  pub blind : (r : ℕ) → list_any (nat_eq r) (ones ∷ reg.PEERS ∷ award_registers) ≡ true → IsBlind Held r

-- the seats are awarded as the lot decides
pub record AreAwarded (a : Arena) (seats : ℕ) (meant : List ℕ) (Held : List ℕ → State → Type 0) (state : State) : Type 0 where
  pub s : List ℕ
  pub choice : IsChoice (IsTop a.ladders seats) meant (Decided s)
  pub held : Held s state

abbrev pub AwardsAchieve : Type 1
AwardsAchieve =
    (c : CountingCode) (e : Election) (a : Arena) (most seats n : ℕ) (meant : List ℕ) (bound : Bound) (tie on : Tree)
    (Held : List ℕ → State → Type 0) (E : End → Type 0) (state : State) → CanAward c e a most seats n meant →
    GivesSeats c e a most (IsCounted a seats) Held on → EndsTied c e a seats meant Held E tie → FitsAwards Held on →
    HasWaiting a a.ladders.base state → Held a.ladders.base state → state.registers reg.LEFT ≡ seats - sum a.ladders.base →
    state.registers reg.LEFT ≤ turns_in e bound →
    Achieves c e (awards n bound tie on) state (AreAwarded a seats meant Held) E
