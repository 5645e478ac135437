-- What a builder has, and what it stands for.
use Rattle.std.specs.Prelude.{◌≡◌, ◌≢◌, ◌⊎◌, ℕ, List, [], ◌∷◌, length, Option, Some, None}
use Rattle.sl_law_meaning.specs.returns.Election.{Election}
use Rattle.sl_returns.specs.declared.fault.FaultKind.TheVariants as fault
use Rattle.sl_returns.specs.declared.fault.ReturnsFault.{ReturnsFault}
use Rattle.sl_returns.specs.declared.header.Version.{Version}
use Rattle.sl_returns.specs.Faults.{row_behind, no_memory}
use Rattle.sl_returns.specs.Cells.{Record}
use Rattle.sl_returns.specs.Headers.{version_of}
use Rattle.sl_returns.specs.Records.{election_of_records}
use Rattle.sl_returns.specs.Returns.{refusal_of, behind_header}

-- the election so far, the version that the header gave, if there was one, the row of the last record, and the fault with which the builder has failed, if it has
pub record Building : Type 0 where
  pub election : Election
  pub version : Option Version
  pub row : ℕ
  pub fault : Option ReturnsFault

-- the row of the last of these records, 0 where there is none
abbrev pub last_row : List Record → ℕ
last_row [] = 0
last_row (r ∷ rest) = row_behind (length rest)

-- the version that the first of these records tells
abbrev pub told_version : List Record → Option Version
told_version [] = None
told_version (r ∷ rest) = version_of r

-- the builder has taken just these records, none of which is refused
pub record StandsFor (b : Building) (rs : List Record) : Type 0 where
  pub accepted : refusal_of rs ≡ None
  pub going : b.fault ≡ None
  pub election : b.election ≡ election_of_records (behind_header rs)
  pub version : b.version ≡ told_version rs
  pub row : b.row ≡ last_row rs

-- a fault has the row of the record after so many, if it is one of a record
abbrev pub HasRowBehind : ℕ → ReturnsFault → Type 0
HasRowBehind records f = f.kind ≢ fault.NoMemory → f.row ≡ row_behind records

-- why the last of these records is refused, none before which is: its own fault or, where it has none, out of memory
abbrev pub RefusesLast : List Record → ReturnsFault → Type 0
RefusesLast rs f = (refusal_of rs ≡ Some f) ⊎ ((refusal_of rs ≡ None) × (f ≡ no_memory))
