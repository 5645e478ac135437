-- The returns that a list of records gives, or the first fault (docs/returns.md, section 5).
use Rattle.std.specs.Prelude.{◌+◌, ◌≡◌, ◌≢◌, ◌⊎◌, ℕ, List, [], ◌∷◌, ◌++◌, length, Option, Some, None, option_map, Result, Ok, Err, nat_eq, slice_get, if◌then◌else◌}
use Rattle.std.specs.Option.{option_or}
use Rattle.csv.specs.Reading.{default_config, records, strip_bom}
use Rattle.csv.specs.Records.{fields_of}
use Rattle.sl_law_meaning.specs.returns.Election.{Election}
use Rattle.sl_returns.specs.declared.fault.ReturnsFault.{ReturnsFault}
use Rattle.sl_returns.specs.declared.fault.FaultKind.TheVariants as fault
use Rattle.sl_returns.specs.declared.header.Version.{Version}
use Rattle.sl_returns.specs.declared.refused.RefusedReturns.{RefusedReturns}
use Rattle.sl_returns.specs.Faults.{fault_at, of_record, row_behind}
use Rattle.sl_returns.specs.Cells.{Record}
use Rattle.sl_returns.specs.Headers.{version_of}
use Rattle.sl_base_terms.specs.Tests.{first_failing}
use Rattle.sl_returns.specs.Tests.{record_tests}
use Rattle.sl_returns.specs.Records.{land_names, election_of_records}

-- what is wrong with a record after the header and after those records
abbrev pub fault_behind : Version → List Record → Record → Option ReturnsFault
fault_behind v before r = option_map (fault_at (row_behind (length before + 1))) (first_failing (record_tests v (election_of_records before) r))

-- the fault of the first record that fails its tests, of records after the header and after those before them
abbrev pub first_fault : Version → List Record → List Record → Option ReturnsFault
first_fault v before [] = None
first_fault v before (r ∷ rest) = option_or (fault_behind v before r) (first_fault v (before ++ r ∷ []) rest)

-- the fault of a first record that is the header of that version, and of those after it
abbrev pub refusal_under : Option Version → List Record → Option ReturnsFault
refusal_under None rest = Some (fault_at (row_behind 0) (of_record fault.Header))
refusal_under (Some v) rest = first_fault v [] rest

-- the first record that is refused: the first of all, if it is not the header, or one that fails its tests
abbrev pub refusal_of : List Record → Option ReturnsFault
refusal_of [] = None
refusal_of (r ∷ rest) = refusal_under (version_of r) rest

-- what is missing at the end of records none of which is refused: a header, or a Land
abbrev pub lack_of : List Record → Option ReturnsFault
lack_of [] = Some (fault_at (row_behind 0) (of_record fault.Header))
lack_of (r ∷ rest) = if nat_eq (length (land_names rest)) 0 then Some (fault_at (row_behind (length rest)) (of_record fault.NoLand)) else None

-- the records after the header
abbrev pub behind_header : List Record → List Record
behind_header [] = []
behind_header (r ∷ rest) = rest

abbrev pub unless : Option ReturnsFault → Election → Result Election ReturnsFault
unless None e = Ok e
unless (Some f) e = Err f

-- the returns, or the first fault
abbrev pub returns_of : List Record → Result Election ReturnsFault
returns_of rs = unless (option_or (refusal_of rs) (lack_of rs)) (election_of_records (behind_header rs))

-- what refused returns have in addition to their fault: the fields of the record that is refused, which has the row of the fault; none of what the records lack at their end
abbrev pub IsRefusedRecord : List Record → ReturnsFault → Record → Type 0
IsRefusedRecord rs f fields = (fields ≡ []) ⊎ ((n : ℕ) × (slice_get rs n ≡ Some fields) × (f.kind ≢ fault.NoMemory → f.row ≡ row_behind n))

-- the records are refused for their first fault
abbrev pub AreRefused : List Record → RefusedReturns → Type 0
AreRefused rs r = (returns_of rs ≡ Err r.fault) × IsRefusedRecord rs r.fault (fields_of r.record)

-- the records of a text, as the `csv` crate defines them
abbrev pub records_in : List ℕ → List Record
records_in bytes = records default_config (strip_bom bytes)
