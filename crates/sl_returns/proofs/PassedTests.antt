-- What the tests of a record of each kind say of it.
use Rattle.std.proofs.Common.{◌≡◌, ◌<◌, ◌++◌, ℕ, true, false, not, List, [], length, Option, Some, None, nat_lt, nat_le, is_none, refl}
use Rattle.std.proofs.lemmas.Bool.{ltb-true, not-true, false≢true}
use Rattle.sl_base_quotients.specs.Names.{is_name}
use Rattle.sl_base_quotients.specs.declared.limits.TheConstants.{MAX_SEATS, MAX_LANDS, MAX_PARTIES, MAX_VOTES}
use Rattle.sl_law_meaning.specs.declared.limits.TheConstants.{MAX_WINS, MAX_LOTS, MAX_SLATE}
use Rattle.sl_law_meaning.specs.returns.Election.{Election, has_list, lands_of, parties_of, wins_of}
use Rattle.sl_returns.specs.declared.schema.TheConstants.{LAND, PARTY, A, B, C}
use Rattle.sl_returns.specs.declared.header.Version.{Version}
use Rattle.sl_returns.specs.declared.schema.Kind.TheVariants as kind
use Rattle.sl_returns.specs.declared.fault.FaultKind.TheVariants as fault
use Rattle.sl_returns.specs.Cells.{Record, cell, number_of, number_in, place_in}
use Rattle.sl_returns.specs.Faults.{of_cell, of_record}
use Rattle.sl_returns.specs.Records.{lot_of}
use Rattle.sl_returns.specs.Tests.{Pass, one_test, name_tests, new_name_tests, known_name_tests, name_or_none_tests, known_or_none_tests, number_tests, number_or_none_tests, blanks, cell_tests, fills_list, filled_tests, has_lot, house_tests, land_tests, party_tests, list_tests, win_tests, lot_cell_tests, lot_tests}
use Rattle.sl_returns.proofs.TestLemmas.{parts, holds}
use Rattle.sl_returns.proofs.NameTests.{is_known}
use Rattle.sl_returns.proofs.NamePlaces.{Known, KnownOrNone, known}
use Rattle.sl_returns.proofs.Rows.{NamesKnown}
use Rattle.sl_returns.proofs.Growing.{BackedByKnown, DrawnOfKnown}

-- a name that is to be known is known
name_known : (column : ℕ) (names : List (List ℕ)) (name : List ℕ) → Pass (known_name_tests names column name) → Known names name
name_known column names name h =
    let (n, found) = is_known _ name (number_in names name) h in
    known names name n found

known_or_none : (column : ℕ) (names : List (List ℕ)) (name : List ℕ) → Pass (name_or_none_tests names column name) → KnownOrNone names name
unfolding known_or_none_tests
known_or_none column names name h filled = name_known _ names name (rw filled at h)

module _ (e : Election) (r : Record) where
  pub record PassedHouse : Type 0 where
    pub seats : Pass (number_tests 1 MAX_SEATS A (cell r A))
    pub new : e.house ≡ None

  pub passed_house : Pass (house_tests e r) → PassedHouse
  passed_house h =
      let last = one_test (is_none e.house) (of_record fault.Twice) in
      let h1 = (parts (blanks kind.House r) (cell_tests e kind.House r ++ last) h).1 in
      let (cells, new) = parts (cell_tests e kind.House r) last h1 in
      record { seats = (parts (number_tests 1 MAX_SEATS A (cell r A)) [] cells).0; new = none_of e.house (holds _ _ new) }
    where
      none_of : (o : Option ℕ) → is_none o ≡ true → o ≡ None
      none_of None h = refl
      none_of (Some n) h = absurd (false≢true h)

  pub record PassedLand : Type 0 where
    pub name : Pass (new_name_tests e.land_names LAND (cell r LAND))
    pub people : Pass (number_tests 0 MAX_VOTES A (cell r A))
    pub free : lands_of e < MAX_LANDS

  pub passed_land : Pass (land_tests e r) → PassedLand
  passed_land h =
      let last = one_test (nat_lt (lands_of e) MAX_LANDS) (of_record fault.TooMany) in
      let people = number_tests 0 MAX_VOTES A (cell r A) ++ [] in
      let h1 = (parts (blanks kind.Land r) (cell_tests e kind.Land r ++ last) h).1 in
      let (cells, room) = parts (cell_tests e kind.Land r) last h1 in
      let (of_name, of_people) = parts (new_name_tests e.land_names LAND (cell r LAND)) people cells in
      record { name = of_name; people = (parts (number_tests 0 MAX_VOTES A (cell r A)) [] of_people).0; free = ltb-true (lands_of e) MAX_LANDS (holds _ _ room) }

  pub record PassedParty : Type 0 where
    pub name : Pass (new_name_tests e.party_names PARTY (cell r PARTY))
    pub free : parties_of e < MAX_PARTIES

  pub passed_party : Pass (party_tests e r) → PassedParty
  passed_party h =
      let last = one_test (nat_lt (parties_of e) MAX_PARTIES) (of_record fault.TooMany) in
      let flag = number_tests 0 1 A (cell r A) ++ [] in
      let h1 = (parts (blanks kind.Party r) (cell_tests e kind.Party r ++ last) h).1 in
      let (cells, room) = parts (cell_tests e kind.Party r) last h1 in
      record { name = (parts (new_name_tests e.party_names PARTY (cell r PARTY)) flag cells).0; free = ltb-true (parties_of e) MAX_PARTIES (holds _ _ room) }

  pub record PassedList : Type 0 where
    pub named : NamesKnown e.land_names e.party_names r
    pub valid : Pass (number_tests 0 MAX_VOTES A (cell r A))
    pub slate : Pass (number_or_none_tests 0 MAX_SLATE C (cell r C))
    pub within : nat_le (number_of (cell r B)) (number_of (cell r A)) ≡ true
    pub new : has_list e (place_in e.land_names (cell r LAND)) (place_in e.party_names (cell r PARTY)) ≡ false

  pub passed_list : (v : Version) → Pass (list_tests v e r) → PassedList
  passed_list v h =
      let there = has_list e (place_in e.land_names (cell r LAND)) (place_in e.party_names (cell r PARTY)) in
      let last = one_test (not there) (of_record fault.Twice) in
      let within = one_test (nat_le (number_of (cell r B)) (number_of (cell r A))) (of_record fault.Counted) in
      let slate = number_or_none_tests 0 MAX_SLATE C (cell r C) ++ [] in
      let counted = number_tests 0 MAX_VOTES B (cell r B) in
      let valid = number_tests 0 MAX_VOTES A (cell r A) in
      let party = known_name_tests e.party_names PARTY (cell r PARTY) in
      let land = known_name_tests e.land_names LAND (cell r LAND) in
      let h1 = (parts (one_test (fills_list v r) (of_cell fault.Fields C)) (cell_tests e kind.List r ++ (within ++ last)) h).1 in
      let (cells, h2) = parts (cell_tests e kind.List r) (within ++ last) h1 in
      let (of_within, new) = parts within last h2 in
      let (of_land, c1) = parts land (party ++ (valid ++ (counted ++ slate))) cells in
      let (of_party, c2) = parts party (valid ++ (counted ++ slate)) c1 in
      let (of_valid, c3) = parts valid (counted ++ slate) c2 in
      let (of_counted, of_slate) = parts counted slate c3 in
      record {
        named = record { land = name_known _ e.land_names (cell r LAND) of_land; party = name_known _ e.party_names (cell r PARTY) of_party };
        valid = of_valid;
        slate = (parts (number_or_none_tests 0 MAX_SLATE C (cell r C)) [] of_slate).0;
        within = holds _ _ of_within;
        new = not-true there (holds (not there) (of_record fault.Twice) new);
      }

  pub record PassedWin : Type 0 where
    pub backed : BackedByKnown e.land_names e.party_names r
    pub name : Pass (new_name_tests e.win_names A (cell r A))
    pub first : Pass (number_tests 1 MAX_VOTES B (cell r B))
    pub valid : Pass (number_tests 0 MAX_VOTES C (cell r C))
    pub within : nat_le (number_of (cell r B)) (number_of (cell r C)) ≡ true
    pub free : wins_of e < MAX_WINS

  pub passed_win : Pass (win_tests e r) → PassedWin
  passed_win h =
      let last = one_test (nat_lt (wins_of e) MAX_WINS) (of_record fault.TooMany) in
      let within = one_test (nat_le (number_of (cell r B)) (number_of (cell r C))) (of_record fault.Range) in
      let valid = number_tests 0 MAX_VOTES C (cell r C) ++ [] in
      let first = number_tests 1 MAX_VOTES B (cell r B) in
      let name = new_name_tests e.win_names A (cell r A) in
      let party = name_or_none_tests e.party_names PARTY (cell r PARTY) in
      let land = known_name_tests e.land_names LAND (cell r LAND) in
      let (cells, h1) = parts (cell_tests e kind.Win r) (within ++ last) h in
      let (of_within, room) = parts within last h1 in
      let (of_land, c1) = parts land (party ++ (name ++ (first ++ valid))) cells in
      let (of_party, c2) = parts party (name ++ (first ++ valid)) c1 in
      let (of_name, c3) = parts name (first ++ valid) c2 in
      let (of_first, of_valid) = parts first valid c3 in
      record {
        backed = record { land = name_known _ e.land_names (cell r LAND) of_land; party = known_or_none _ e.party_names (cell r PARTY) of_party };
        name = of_name;
        first = of_first;
        valid = (parts (number_tests 0 MAX_VOTES C (cell r C)) [] of_valid).0;
        within = holds _ _ of_within;
        free = ltb-true (wins_of e) MAX_WINS (holds _ _ room);
      }

  pub record PassedLot : Type 0 where
    pub drawn : DrawnOfKnown e.land_names e.party_names e.win_names r
    pub stage : is_name (cell r A) ≡ true
    pub free : length e.lots < MAX_LOTS

  pub passed_lot : Pass (lot_tests e r) → PassedLot
  unfolding name_tests
  passed_lot h =
      let new = one_test (not (has_lot e.lots (lot_of e.land_names e.party_names e.win_names r))) (of_record fault.Twice) in
      let room = one_test (nat_lt (length e.lots) MAX_LOTS) (of_record fault.TooMany) in
      let win = name_or_none_tests e.win_names B (cell r B) ++ [] in
      let stage = name_tests A (cell r A) in
      let party = name_or_none_tests e.party_names PARTY (cell r PARTY) in
      let land = name_or_none_tests e.land_names LAND (cell r LAND) in
      let (filled_cells, rest) = parts (lot_cell_tests e r) (new ++ room) h in
      let cells = (parts (filled_tests r) (cell_tests e kind.Lot r) filled_cells).1 in
      let (of_land, c1) = parts land (party ++ (stage ++ win)) cells in
      let (of_party, c2) = parts party (stage ++ win) c1 in
      let (of_stage, of_win) = parts stage win c2 in
      record {
        drawn = record {
          land = known_or_none _ e.land_names (cell r LAND) of_land;
          party = known_or_none _ e.party_names (cell r PARTY) of_party;
          win = known_or_none _ e.win_names (cell r B) (parts (name_or_none_tests e.win_names B (cell r B)) [] of_win).0;
        };
        stage = holds _ _ of_stage;
        free = ltb-true (length e.lots) MAX_LOTS (holds _ _ (parts new room rest).1);
      }
