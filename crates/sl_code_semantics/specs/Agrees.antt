-- When a state is one of which the verifier's kinds are known, and when a run may reach it (docs/machine.md, section 5).
use Rattle.std.specs.Prelude.{◌≡◌, ◌≢◌, ℕ, ◌<◌, IsTrue, IsSome, [], length, Option, Some, None, slice_get, ⊤}
use Rattle.sl_law_meaning.specs.returns.Election.{Election, IsElection}
use Rattle.sl_code_instructions.specs.declared.instr.Instr.{Instr}
use Rattle.sl_code_instructions.specs.declared.kinds.Registers.{Registers}
use Rattle.sl_code_instructions.specs.declared.kinds.Cursors.{Cursors}
use Rattle.sl_code_instructions.specs.declared.kinds.TableState.{TableState}
use Rattle.sl_code_instructions.specs.declared.kinds.Kinds.{Kinds}
use Rattle.sl_code_instructions.specs.Codes.{CountingCode}
use Rattle.sl_code_semantics.specs.Kinds.{contains}
use Rattle.sl_code_semantics.specs.WellKinded.{IsWellKinded}
use Rattle.sl_code_semantics.specs.State.{State, PriorityTable}
use Rattle.sl_code_semantics.specs.Fits.{FitsRecords}
use Rattle.sl_code_semantics.specs.Safe.{IsInRange}

-- the registers of the set are positive
abbrev pub ArePositive : Registers → (ℕ → ℕ) → Type 0
ArePositive set registers = (r : ℕ) → IsTrue (contains set r) → 0 < registers r

-- the cursors of the set are set
pub record AreSet (set : Cursors) (p l w : Option ℕ) : Type 0 where
  pub party : IsTrue set.party → IsSome p
  pub land : IsTrue set.land → IsSome l
  pub win : IsTrue set.win → IsSome w

-- the table is as it is known to be
pub record IsTable (known : TableState) (t : PriorityTable) : Type 0 where
  pub entries : t.entries ≡ known.entries
  pub ranking : t.ranking ≡ known.ranking
  pub ready : IsTrue known.ready → t.contents ≢ []

-- the table is on and as it is known to be, where it is known to be on
abbrev pub HasTable : Option TableState → Option PriorityTable → Type 0
HasTable None table = ⊤
HasTable (Some known) None = ⊥
HasTable (Some known) (Some t) = IsTable known t

-- the state is one of which the kinds are known
pub record Agrees (k : Kinds) (s : State) : Type 0 where
  pub positive : ArePositive k.positive s.registers
  pub cursors : AreSet k.cursors s.party s.land s.win
  pub table : HasTable k.table s.table

-- a run of the code for the election may reach the place in the state: the code is well kinded, an instruction stands there, and the
-- state is one of which its kinds are known, and all in it fits
pub record IsSafe (c : CountingCode) (e : Election) (place : ℕ) (s : State) : Type 0 where
  pub code : IsWellKinded c
  pub election : IsElection e
  pub instr : Instr
  pub stands : slice_get c.instrs place ≡ Some instr
  pub agrees : Agrees (code.kinds place) s
  pub range : IsInRange e s
  pub records : FitsRecords (length c.stages) e s.steps s.weights
