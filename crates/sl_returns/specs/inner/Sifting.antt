-- Records that are read in turn, where each that is refused is left out, and what is kept of those that are.
use Rattle.std.specs.Prelude.{◌≡◌, List, [], ◌∷◌, ◌++◌, drop, length, map, slice_get, take, Option, Some, None, option_map}
use Rattle.sl_returns.specs.declared.fault.ReturnsFault.{ReturnsFault}
use Rattle.sl_returns.specs.declared.header.Version.{Version}
use Rattle.sl_returns.specs.declared.refused.TheConstants.{MAX_FURTHER}
use Rattle.sl_returns.specs.declared.sieve.Refusals.{Refusals}
use Rattle.sl_returns.specs.Cells.{Record}
use Rattle.sl_returns.specs.Further.{Refusal, refusal, refusals_for, refused_of, taken_from}
use Rattle.sl_returns.specs.Headers.{version_of}
use Rattle.sl_returns.specs.Records.{election_of_records}
use Rattle.sl_returns.specs.inner.Building.{Building, StandsFor, last_row, told_version}

-- the first record is a header, if there is one
abbrev pub IsHeaded : List Record → Type 0
IsHeaded [] = Unit {0}
IsHeaded (h ∷ rest) = (v : Version) × (version_of h ≡ Some v)

-- the records after the header that are taken
abbrev pub taken_under : Option Version → List Record → List Record
taken_under None rest = []
taken_under (Some v) rest = taken_from v [] rest

abbrev pub taken_among : List Record → List Record
taken_among [] = []
taken_among (h ∷ rest) = taken_under (version_of h) rest

-- the builder has taken just those of these records that are not refused
pub record HasSifted (b : Building) (rs : List Record) : Type 0 where
  pub headed : IsHeaded rs
  pub going : b.fault ≡ None
  pub election : b.election ≡ election_of_records (taken_among rs)
  pub version : b.version ≡ told_version rs
  pub row : b.row ≡ last_row rs

-- the builder has taken the record after those, or left it out for its fault; after a first record that is no header, no other counts
pub record Sifts (b : Building) (rs : List Record) (r : Record) (found : Option ReturnsFault) : Type 0 where
  pub goes : (v : Version) → b.version ≡ Some v → HasSifted b (rs ++ r ∷ []) × (refused_of (rs ++ r ∷ []) ≡ refused_of rs ++ refusals_for found r)
  pub ends : b.version ≡ None → (more : List Record) → (f : ReturnsFault) × (found ≡ Some f) × (refused_of ((rs ++ r ∷ []) ++ more) ≡ refused_of rs ++ refusals_for found r)

-- what is kept of records that are refused: the first, the first of those after it, and the number of the others
pub record Keeps (kept : Refusals) (all : List Refusal) : Type 0 where
  pub first : option_map refusal kept.first ≡ slice_get all 0
  pub further : map refusal kept.further.items ≡ take MAX_FURTHER (drop 1 all)
  pub more : kept.more ≡ length (drop MAX_FURTHER (drop 1 all))

-- what is kept is that of all the records, and the builder has taken all, if none is refused
pub record IsSifted (b : Building) (kept : Refusals) (rs : List Record) : Type 0 where
  pub keeps : Keeps kept (refused_of rs)
  pub good : refused_of rs ≡ [] → StandsFor b rs

-- after one record more there is either more to read, or the records read so far decide
abbrev pub GoesOn : Building → Refusals → List Record → Type 0
GoesOn b kept rs = HasSifted b rs × Keeps kept (refused_of rs)

abbrev pub HasEnded : Building → Refusals → List Record → Type 0
HasEnded b kept rs = (more : List Record) → IsSifted b kept (rs ++ more)
