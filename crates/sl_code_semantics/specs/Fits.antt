-- What is recorded, held and answered fits the code and the returns: each stage, party, Land and winner that it names is there, and each
-- column has the length of its shape (docs/machine.md, section 6).
use Rattle.std.specs.Prelude.{◌≡◌, ◌<◌, ◌≤◌, ℕ, ◌*◌, List, All, Option, Some, length, map, slice_get}
use Rattle.std.specs.Option.{ForSome}
use Rattle.sl_base_terms.specs.declared.shape.Shape.TheVariants as shape
use Rattle.sl_law_meaning.specs.declared.fault.FaultKind.{FaultKind}
use Rattle.sl_law_meaning.specs.declared.fault.FaultKind.TheVariants as fault
use Rattle.sl_law_meaning.specs.declared.fault.Item.{Item}
use Rattle.sl_law_meaning.specs.declared.fault.Item.TheVariants as item
use Rattle.sl_law_meaning.specs.declared.fault.LegalFault.{LegalFault}
use Rattle.sl_law_meaning.specs.declared.fault.Scope.{Scope}
use Rattle.sl_law_meaning.specs.declared.fault.Scope.TheVariants as scope
use Rattle.sl_law_meaning.specs.declared.table.SeatStep.{SeatStep}
use Rattle.sl_law_meaning.specs.declared.table.Weight.{Weight}
use Rattle.sl_law_meaning.specs.returns.Election.{Election, lands_of, parties_of, wins_of}
use Rattle.sl_code_instructions.specs.Codes.{CountingCode}
use Rattle.sl_code_semantics.specs.State.{State, End, Halted, Faulted}
use Rattle.sl_code_semantics.specs.Places.{cells_of}
use Rattle.sl_code_semantics.specs.Memories.{Held}

-- ---- what the returns have

abbrev pub HasItem : Election → Item → Type 0
HasItem e (item.Party party) = party < parties_of e
HasItem e (item.Land land) = land < lands_of e
HasItem e (item.List land party) = (land < lands_of e) × (party < parties_of e)
HasItem e (item.Win win) = win < wins_of e

abbrev pub HasScope : Election → Scope → Type 0
HasScope e scope.All = Unit {0}
HasScope e (scope.Land land) = land < lands_of e
HasScope e (scope.Party party) = party < parties_of e
HasScope e (scope.List land party) = (land < lands_of e) × (party < parties_of e)

-- ---- records and faults, of a code with so many stages. The last clause counts as the stage after them

-- a stage, a scope of the returns, and an entry of theirs
pub record FitsRecord (stages : ℕ) (e : Election) (n : ℕ) (x : Scope) (i : Item) : Type 0 where
  pub stage : n ≤ stages
  pub scope : HasScope e x
  pub entry : HasItem e i

abbrev pub FitsStep : ℕ → Election → SeatStep → Type 0
FitsStep stages e x = FitsRecord stages e x.stage x.scope x.entry

abbrev pub FitsWeight : ℕ → Election → Weight → Type 0
FitsWeight stages e x = FitsRecord stages e x.stage x.scope x.entry

-- the names of a tie
abbrev pub FitsKind : Election → FaultKind → Type 0
FitsKind e (fault.Tie seats names) = All (HasItem e) names
FitsKind e kind = Unit {0}

pub record FitsFault (stages : ℕ) (e : Election) (f : LegalFault) : Type 0 where
  pub stage : f.stage ≤ stages
  pub scope : HasScope e f.scope
  pub kind : FitsKind e f.kind

-- ---- what is held

-- what was recorded
pub record FitsRecords (stages : ℕ) (e : Election) (xs : List SeatStep) (ws : List Weight) : Type 0 where
  pub steps : All (FitsStep stages e) xs
  pub weights : All (FitsWeight stages e) ws

-- the columns have the lengths of their shapes, the seats and the vacant seats those of the lists; there is a place for each winner
pub record FitsMemory (c : CountingCode) (e : Election) (h : Held) : Type 0 where
  pub columns : map length h.columns ≡ map (cells_of e) c.slots
  pub base : length h.base ≡ lands_of e * parties_of e
  pub vacant : length h.vacant ≡ lands_of e * parties_of e
  pub placed : length h.placed ≡ wins_of e
  pub records : FitsRecords (length c.stages) e h.steps h.weights

-- ---- ends

-- the slots of the seats hold columns of lists
pub record FitsHalt (c : CountingCode) (e : Election) (k : ℕ) (v : Option ℕ) (s : State) : Type 0 where
  pub base : slice_get c.slots k ≡ Some shape.List
  pub vacant : ForSome v (λ slot. slice_get c.slots slot ≡ Some shape.List)
  pub records : FitsRecords (length c.stages) e s.steps s.weights

abbrev pub FitsEnd : CountingCode → Election → End → Type 0
FitsEnd c e (Halted base vacant s) = FitsHalt c e base vacant s
FitsEnd c e (Faulted f) = FitsFault (length c.stages) e f
