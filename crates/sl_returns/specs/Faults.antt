-- The faults of returns (docs/returns.md, section 5).
use Rattle.std.specs.Prelude.{◌^◌, ◌+◌, ◌-◌, ℕ, None, Some, min}
use Rattle.sl_returns.specs.declared.fault.FaultKind.{FaultKind}
use Rattle.sl_returns.specs.declared.fault.FaultKind.TheVariants.{Header, Fields, Kind, Name, Number, Range, Unknown, Twice, Counted, TooMany, NoLand, NoMemory}
use Rattle.sl_returns.specs.declared.fault.RecordFault.{RecordFault}
use Rattle.sl_returns.specs.declared.fault.ReturnsFault.{ReturnsFault}

-- the number of a fault
abbrev pub fault_number : FaultKind → ℕ
fault_number Header = 1
fault_number Fields = 2
fault_number Kind = 3
fault_number Name = 4
fault_number Number = 5
fault_number Range = 6
fault_number Unknown = 7
fault_number Twice = 8
fault_number Counted = 9
fault_number TooMany = 10
fault_number NoLand = 11
fault_number NoMemory = 12

-- the row that a fault of a record tells: the record's, but for lack of memory, which is of no record
abbrev pub row_told : ℕ → FaultKind → ℕ
row_told row Header = row
row_told row Fields = row
row_told row Kind = row
row_told row Name = row
row_told row Number = row
row_told row Range = row
row_told row Unknown = row
row_told row Twice = row
row_told row Counted = row
row_told row TooMany = row
row_told row NoLand = row
row_told row NoMemory = 0

-- a fault of the cell of a column
abbrev pub of_cell : FaultKind → ℕ → RecordFault
of_cell k column = record { kind = k; column = Some column }

-- a fault of a record as a whole
abbrev pub of_record : FaultKind → RecordFault
of_record k = record { kind = k; column = None }

-- what is wrong with the record of a row
abbrev pub fault_at : ℕ → RecordFault → ReturnsFault
fault_at row f = record { row = row_told row f.kind; column = f.column; kind = f.kind }

-- the answer when out of memory
abbrev pub no_memory : ReturnsFault
no_memory = record { row = 0; column = None; kind = NoMemory }

-- the row of the record after so many others. A row has 32 bits: one that is past them is reported as the greatest
abbrev pub row_behind : ℕ → ℕ
row_behind records = min (records + 1) (2 ^ 32 - 1)
