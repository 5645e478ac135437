-- The election with a record more, for a record whose tests hold.
use Rattle.std.specs.Prelude.{◌≡◌, ◌≢◌, IfErr, Option, Result, Some, None}
use Rattle.sl_law_meaning.specs.returns.Election.{Election, with_house, with_land, with_party, with_list, with_win, with_lot}
use Rattle.sl_returns.specs.declared.schema.TheConstants.{KIND, LAND, PARTY, A}
use Rattle.sl_returns.specs.declared.header.Version.{Version}
use Rattle.sl_returns.specs.declared.schema.Kind.{Kind}
use Rattle.sl_returns.specs.declared.schema.Kind.TheVariants as kind
use Rattle.sl_returns.specs.declared.fault.RecordFault.{RecordFault}
use Rattle.sl_returns.specs.declared.fault.FaultKind.TheVariants as fault
use Rattle.sl_returns.specs.Cells.{Record, cell, number_of, place_in}
use Rattle.sl_returns.specs.Faults.{of_record}
use Rattle.sl_returns.specs.Headers.{version_of}
use Rattle.sl_returns.specs.Schema.{kind_named}
use Rattle.sl_returns.specs.Records.{is_minority, votes_of, win_of, lot_of}
use Rattle.sl_returns.specs.Tests.{Pass, Refuse, record_tests}

abbrev pub with_house_of : Election → Record → Election
with_house_of e r = with_house e (number_of (cell r A))

abbrev pub with_land_of : Election → Record → Election
with_land_of e r = with_land e (cell r LAND) (number_of (cell r A))

abbrev pub with_party_of : Election → Record → Election
with_party_of e r = with_party e (cell r PARTY) (is_minority r)

abbrev pub with_list_of : Election → Record → Election
with_list_of e r = with_list e (place_in e.land_names (cell r LAND)) (place_in e.party_names (cell r PARTY)) (votes_of r)

abbrev pub with_win_of : Election → Record → Election
with_win_of e r = with_win e (cell r A) (win_of e.land_names e.party_names r)

abbrev pub with_lot_of : Election → Record → Election
with_lot_of e r = with_lot e (lot_of e.land_names e.party_names e.win_names r)

abbrev pub with_kind : Option Kind → Election → Record → Election
with_kind None e r = e
with_kind (Some kind.House) e r = with_house_of e r
with_kind (Some kind.Land) e r = with_land_of e r
with_kind (Some kind.Party) e r = with_party_of e r
with_kind (Some kind.List) e r = with_list_of e r
with_kind (Some kind.Win) e r = with_win_of e r
with_kind (Some kind.Lot) e r = with_lot_of e r

abbrev pub with_record : Election → Record → Election
with_record e r = with_kind (kind_named (cell r KIND)) e r

-- what taking a record leaves: the first is the header of a version and changes nothing else, another passes its tests and joins
abbrev pub TakesRecord : Option Version → Version → Election → Election → Record → Type 0
TakesRecord None v old new r = (version_of r ≡ Some v) × (new ≡ old)
TakesRecord (Some u) v old new r = (v ≡ u) × Pass (record_tests u old r) × (new ≡ with_record old r)

-- why a record is refused
abbrev pub RefusesRecord : Option Version → Election → Record → RecordFault → Type 0
RefusesRecord None old r f = (version_of r ≡ None) × (f ≡ of_record fault.Header)
RefusesRecord (Some u) old r f = Refuse (record_tests u old r) f

-- what holds where a record is refused for a fault of its own, and not for lack of memory
abbrev pub OwnFault : {T : Type 0} → Result T RecordFault → Type 0 → Type 0
OwnFault answer P = IfErr answer (λ f. f.kind ≢ fault.NoMemory → P)
