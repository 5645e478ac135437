-- All records that are refused: each is tested after those before it that were taken, and one that is refused is left out for those after it
-- (docs/returns.md, section 5).
use Rattle.std.specs.Prelude.{◌+◌, ◌≡◌, ℕ, List, [], ◌∷◌, ◌++◌, drop, length, map, take, Option, Some, None, option_map}
use Rattle.csv.specs.Records.{fields_of}
use Rattle.sl_base_terms.specs.Tests.{first_failing}
use Rattle.sl_returns.specs.declared.fault.FaultKind.TheVariants as fault
use Rattle.sl_returns.specs.declared.fault.RecordFault.{RecordFault}
use Rattle.sl_returns.specs.declared.fault.ReturnsFault.{ReturnsFault}
use Rattle.sl_returns.specs.declared.header.Version.{Version}
use Rattle.sl_returns.specs.declared.refused.RefusedRecord.{RefusedRecord}
use Rattle.sl_returns.specs.declared.refused.RefusedReturns.{RefusedReturns}
use Rattle.sl_returns.specs.declared.refused.TheConstants.{MAX_FURTHER}
use Rattle.sl_returns.specs.Cells.{Record}
use Rattle.sl_returns.specs.Faults.{fault_at, of_record, row_behind}
use Rattle.sl_returns.specs.Headers.{version_of}
use Rattle.sl_returns.specs.Records.{election_of_records}
use Rattle.sl_returns.specs.Tests.{record_tests}

-- a record that is refused, and its fault
pub record Refusal : Type 0 where
  pub fault : ReturnsFault
  pub fields : Record

-- the fault of a record itself, after the header and after the records that were taken: that of its first test that fails
abbrev pub own_fault : Version → List Record → Record → Option RecordFault
own_fault v taken r = first_failing (record_tests v (election_of_records taken) r)

-- a record that has no fault of its own is taken, and one that has is left out
abbrev pub taken_of : Option RecordFault → Record → List Record
taken_of None r = r ∷ []
taken_of (Some f) r = []

-- a record that has a fault is refused
abbrev pub refusals_for : Option ReturnsFault → Record → List Refusal
refusals_for None r = []
refusals_for (Some f) r = record { fault = f; fields = r } ∷ []

-- the fault with the row of a record before which so many stand
abbrev pub in_row : ℕ → Option RecordFault → Option ReturnsFault
in_row before f = option_map (fault_at (row_behind before)) f

-- the records that are taken: those before, and of the others in their order each that has no fault of its own after those taken before it
abbrev pub taken_from : Version → List Record → List Record → List Record
taken_from v taken [] = taken
taken_from v taken (r ∷ rest) = taken_from v (taken ++ taken_of (own_fault v taken r) r) rest

-- the records that are refused: those of the others, before which so many stand, that have a fault of their own after those taken before them
abbrev pub refused_from : Version → ℕ → List Record → List Record → List Refusal
refused_from v before taken [] = []
refused_from v before taken (r ∷ rest) = refusals_for (in_row before (own_fault v taken r)) r ++ refused_from v (before + 1) (taken ++ taken_of (own_fault v taken r) r) rest

-- the records that are refused of a first record that is the header of that version, and of those after it; where it is no header, it is the one that is refused
abbrev pub refused_under : Option Version → Record → List Record → List Refusal
refused_under None h rest = refusals_for (Some (fault_at (row_behind 0) (of_record fault.Header))) h
refused_under (Some v) h rest = refused_from v 1 [] rest

-- all records that are refused, each left out for those after it
abbrev pub refused_of : List Record → List Refusal
refused_of [] = []
refused_of (h ∷ rest) = refused_under (version_of h) h rest

-- those after the first one
abbrev pub further_of : List Record → List Refusal
further_of rs = drop 1 (refused_of rs)

-- what is handed on of a record that is refused
abbrev pub refusal : RefusedRecord → Refusal
refusal r = record { fault = r.fault; fields = fields_of r.record }

-- refused returns have the first of the further records that are refused, and the number of the others
pub record HasFurther (rs : List Record) (r : RefusedReturns) : Type 0 where
  pub first : map refusal r.further.items ≡ take MAX_FURTHER (further_of rs)
  pub others : r.more ≡ length (drop MAX_FURTHER (further_of rs))
