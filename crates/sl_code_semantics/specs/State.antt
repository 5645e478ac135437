-- The states of the counting machine, and the ends that an instruction gives its runs (docs/machine.md, section 1).
use Rattle.std.specs.Prelude.{ℕ, List, [], Option, None, ◌==◌, ◌&&◌, if◌then◌else◌}
use Rattle.sl_base_quotients.specs.declared.entry.Entry.{Entry}
use Rattle.sl_law_meaning.specs.declared.fault.LegalFault.{LegalFault}
use Rattle.sl_law_meaning.specs.declared.table.Mark.{Mark}
use Rattle.sl_law_meaning.specs.declared.table.Mark.TheVariants as mark
use Rattle.sl_law_meaning.specs.declared.table.Placed.{Placed}
use Rattle.sl_law_meaning.specs.declared.table.Placed.TheVariants as placed
use Rattle.sl_law_meaning.specs.declared.table.SeatStep.{SeatStep}
use Rattle.sl_law_meaning.specs.declared.table.Weight.{Weight}
use Rattle.sl_code_instructions.specs.declared.operand.Entries.{Entries}
use Rattle.sl_code_instructions.specs.declared.operand.Ranking.{Ranking}

-- the priority table, while it is on: what its entries are, by what they are ranked, and the entries, from the greatest to the smallest
pub record PriorityTable : Type 0 where
  pub entries : Entries
  pub ranking : Ranking
  pub contents : List Entry

-- a state, but for the place in the code
pub record State : Type 0 where
  pub registers : ℕ → ℕ
  -- by slot and by place in the column
  pub columns : ℕ → ℕ → ℕ
  -- the cursors, where they are set
  pub party : Option ℕ
  pub land : Option ℕ
  pub win : Option ℕ
  pub table : Option PriorityTable
  -- the mark of the entry taken last
  pub mark : Mark
  pub steps : List SeatStep
  pub weights : List Weight
  -- by winner
  pub placed : ℕ → Placed

-- everything 0 or unset, and the mark 1/1
abbrev pub start : State
start = record {
  registers = λ r. 0;
  columns = λ slot place. 0;
  party = None;
  land = None;
  win = None;
  table = None;
  mark = mark.Quotient (record { num = 1; den = 1 });
  steps = [];
  weights = [];
  placed = λ w. placed.Unseated;
}

abbrev pub with_register : ℕ → ℕ → State → State
with_register r value s = record s { registers = λ q. if q == r then value else s.registers q }

abbrev pub with_column : ℕ → (ℕ → ℕ) → State → State
with_column slot cells s = record s { columns = λ k. if k == slot then cells else s.columns k }

abbrev pub with_cell : ℕ → ℕ → ℕ → State → State
with_cell slot place value s = record s { columns = λ k p. if (k == slot) && (p == place) then value else s.columns k p }

abbrev pub with_place : ℕ → Placed → State → State
with_place winner where_to s = record s { placed = λ w. if w == winner then where_to else s.placed w }

-- the end that an instruction gives a run: with the seats of the lists in a slot, and the vacant ones in a slot if one is named; or with a
-- legal fault
pub data End : Type 0 where
  Halted : (base : ℕ) (vacant : Option ℕ) (last : State) → End
  Faulted : (fault : LegalFault) → End
