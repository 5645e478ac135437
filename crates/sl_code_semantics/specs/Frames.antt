-- What an instruction may write, and that it leaves all else as it was.
use Rattle.std.specs.Prelude.{◌≡◌, ℕ, Bool, true, false, ◌==◌, ◌&&◌, List, ◌++◌, Option, Some, None}
use Rattle.sl_law_meaning.specs.declared.table.SeatStep.{SeatStep}
use Rattle.sl_law_meaning.specs.declared.table.Weight.{Weight}
use Rattle.sl_law_meaning.specs.returns.Election.{Election}
use Rattle.sl_code_instructions.specs.declared.instr.Instr.{Instr}
use Rattle.sl_code_instructions.specs.declared.instr.Instr.TheVariants as op
use Rattle.sl_code_instructions.specs.Codes.{CountingCode}
use Rattle.sl_code_semantics.specs.State.{State, Halted, Faulted}
use Rattle.sl_code_semantics.specs.Effects.{Effect, Goes, Jumps, Ends, NoCase}
use Rattle.sl_code_semantics.specs.Seen.{place_at}

-- ---- what an instruction may write

abbrev pub writes_register : Instr → ℕ → Bool
writes_register (op.Set r x) q = q == r
writes_register (op.Mov r s) q = q == r
writes_register (op.Add r s) q = q == r
writes_register (op.Sub r s) q = q == r
writes_register (op.Mul r s) q = q == r
writes_register (op.Div r s) q = q == r
writes_register (op.Rem r s) q = q == r
writes_register (op.Max r s) q = q == r
writes_register (op.Get r k) q = q == r
writes_register (op.House r) q = q == r
writes_register (op.Peers r t) q = q == r
writes_register _ q = false

-- the slots of whose columns it may write a cell
abbrev pub writes_slot : Instr → ℕ → Bool
writes_slot (op.Store k r) slot = slot == k
writes_slot (op.Zero k) slot = slot == k
writes_slot (op.Input k i) slot = slot == k
writes_slot _ slot = false

-- a number is that one, if there is one
abbrev pub is_at : Option ℕ → ℕ → Bool
is_at None n = false
is_at (Some m) n = n == m

-- the cells that it may write in a state: all of a column, but `store` the one at the cursors alone
abbrev pub writes_cell : CountingCode → Election → State → Instr → ℕ → ℕ → Bool
writes_cell c e s (op.Store k r) slot place = (slot == k) && is_at (place_at c e k s) place
writes_cell c e s i slot place = writes_slot i slot

abbrev pub moves_party : Instr → Bool
moves_party (op.Wparty t) = true
moves_party (op.Fparty t) = true
moves_party (op.Nparty t) = true
moves_party op.Take = true
moves_party (op.Takelot n) = true
moves_party _ = false

abbrev pub moves_land : Instr → Bool
moves_land op.Wland = true
moves_land (op.Fland t) = true
moves_land (op.Nland t) = true
moves_land op.Take = true
moves_land (op.Takelot n) = true
moves_land _ = false

abbrev pub moves_win : Instr → Bool
moves_win (op.Fwin t) = true
moves_win (op.Nwin t) = true
moves_win op.Take = true
moves_win (op.Takelot n) = true
moves_win _ = false

abbrev pub writes_table : Instr → Bool
writes_table (op.Table k by) = true
writes_table (op.Prio m r held) = true
writes_table (op.Rest r) = true
writes_table op.Lead = true
writes_table op.Share = true
writes_table op.Take = true
writes_table (op.Takelot n) = true
writes_table _ = false

abbrev pub writes_mark : Instr → Bool
writes_mark op.Take = true
writes_mark (op.Takelot n) = true
writes_mark _ = false

-- the winners whom it may seat in a state
abbrev pub writes_place : State → Instr → ℕ → Bool
writes_place s op.Seat w = is_at s.win w
writes_place s op.Single w = is_at s.win w
writes_place s _ w = false

abbrev pub records_step : Instr → Bool
records_step (op.Emit n k number step) = true
records_step (op.Given n k number) = true
records_step _ = false

abbrev pub records_weight : Instr → Bool
records_weight (op.Weigh n k by r) = true
records_weight _ = false

-- ---- what stays

-- what the instruction cannot write is in the second state as in the first, and records are only added
pub record KeepsOthers (c : CountingCode) (e : Election) (i : Instr) (s t : State) : Type 0 where
  pub registers : (q : ℕ) → writes_register i q ≡ false → t.registers q ≡ s.registers q
  pub columns : (slot place : ℕ) → writes_cell c e s i slot place ≡ false → t.columns slot place ≡ s.columns slot place
  pub party : moves_party i ≡ false → t.party ≡ s.party
  pub land : moves_land i ≡ false → t.land ≡ s.land
  pub win : moves_win i ≡ false → t.win ≡ s.win
  pub table : writes_table i ≡ false → t.table ≡ s.table
  pub mark : writes_mark i ≡ false → t.mark ≡ s.mark
  pub placed : (w : ℕ) → writes_place s i w ≡ false → t.placed w ≡ s.placed w
  pub steps : (more : List SeatStep) × (t.steps ≡ s.steps ++ more)
  pub weights : (more : List Weight) × (t.weights ≡ s.weights ++ more)
  pub steps_kept : records_step i ≡ false → t.steps ≡ s.steps
  pub weights_kept : records_weight i ≡ false → t.weights ≡ s.weights

-- so it is in the state to which an effect leads
abbrev pub Frames : CountingCode → Election → Instr → State → Effect → Type 0
Frames c e i s (Goes t) = KeepsOthers c e i s t
Frames c e i s (Jumps t) = KeepsOthers c e i s t
Frames c e i s (Ends (Halted base vacant t)) = KeepsOthers c e i s t
Frames c e i s (Ends (Faulted f)) = Unit {0}
Frames c e i s NoCase = Unit {0}
