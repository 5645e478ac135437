-- Records that make an election make one that keeps what every election keeps.
use Rattle.std.proofs.Common.{◌≡◌, ℕ, ◌+◌, ◌<◌, ◌≤◌, ◌&&◌, Bool, true, false, not, List, [], ◌∷◌, ◌++◌, length, Option, Some, None, Ok, IsTrue, is_ok, nat_eq, nat_le, nat_lt, if◌then◌else◌, refl, sym, ap, subst, append_assoc, arith}
use Rattle.std.specs.Option.{ForSome, option_map, option_or}
use Rattle.std.proofs.lemmas.Bool.{and_parts, not-true, leb-true, le-ltb, false≢true}
use Rattle.std.proofs.lemmas.List.{append-nil}
use Rattle.std.proofs.lemmas.List.Elements.{All-nil}
use Rattle.std.proofs.lemmas.Option.{none-some, same_Some}
use Rattle.std.specs.List.{list_all}
use Rattle.sl_base_quotients.specs.declared.spelling.TheConstants.{MAX_NAME_BYTES}
use Rattle.sl_base_quotients.specs.Names.{IsNameList, is_name, is_name_byte, spelling_fault}
use Rattle.sl_base_quotients.specs.declared.limits.TheConstants.{MAX_SEATS, MAX_LANDS, MAX_PARTIES, MAX_VOTES}
use Rattle.sl_law_meaning.specs.declared.limits.TheConstants.{MAX_WINS, MAX_SLATE}
use Rattle.sl_base_terms.specs.Tests.{first_failing}
use Rattle.sl_law_meaning.specs.returns.Election.{Election, IsElection}
use Rattle.sl_law_meaning.proofs.Elections.{is_with_house, is_with_land, is_with_party, is_with_list, is_with_win, is_with_lot}
use Rattle.sl_returns.specs.declared.schema.TheConstants.{KIND, LAND, PARTY, A, B, C}
use Rattle.sl_returns.specs.declared.fault.FaultKind.TheVariants as fault
use Rattle.sl_returns.specs.declared.fault.ReturnsFault.{ReturnsFault}
use Rattle.sl_returns.specs.declared.header.Version.{Version}
use Rattle.sl_returns.specs.declared.schema.Kind.{Kind}
use Rattle.sl_returns.specs.declared.schema.Kind.TheVariants as kind
use Rattle.sl_returns.specs.Cells.{Record, cell, is_blank, is_number, number_of, number_or_none, place_in, place_or_none}
use Rattle.sl_returns.specs.Faults.{fault_at, of_cell, row_behind}
use Rattle.sl_returns.specs.inner.Joining.{with_kind, with_record}
use Rattle.sl_returns.specs.Schema.{kind_named}
use Rattle.sl_returns.specs.Records.{election_of_records, votes_of}
use Rattle.sl_returns.specs.Returns.{fault_behind, first_fault, refusal_of, lack_of, behind_header, returns_of, unless}
use Rattle.sl_returns.specs.Tests.{Pass, one_test, number_tests, number_or_none_tests, sized_test, house_tests, land_tests, party_tests, list_tests, win_tests, lot_tests, kind_tests, record_tests}
use Rattle.sl_returns.proofs.Accepted.{makes}
use Rattle.sl_returns.proofs.Feeding.{sound}
use Rattle.sl_returns.proofs.NameTests.{may_join}
use Rattle.sl_returns.proofs.PassedTests.{passed_house, passed_land, passed_party, passed_list, passed_win, passed_lot}
use Rattle.sl_returns.proofs.NamePlaces.{KnownOrNone}
use Rattle.sl_returns.proofs.Steps.{IsGood, no_records, grows}
use Rattle.sl_returns.proofs.TestLemmas.{parts, holds}

-- ---- numbers and names

-- a number that passes its tests is in its range
in_range : (column : ℕ) (c : List ℕ) (low high : ℕ) → Pass (number_tests low high column c) → (low ≤ number_of c) × (number_of c ≤ high)
unfolding number_tests
in_range column c low high h =
    let both = and_parts (nat_le low (number_of c)) (nat_le (number_of c) high)
    (holds _ _ (parts (one_test (is_number c) (of_cell fault.Number column)) (one_test (nat_le low (number_of c) && nat_le (number_of c) high) (of_cell fault.Range column)) h).1) in
    (leb-true low (number_of c) both.0, leb-true (number_of c) high both.1)

in_range_or_none : (column : ℕ) (c : List ℕ) (low high : ℕ) → Pass (number_or_none_tests low high column c) → ForSome (number_or_none c) (λ n. n ≤ high)
unfolding number_or_none_tests
in_range_or_none column c low high h = go (is_blank c) h
  where
    go : (b : Bool) → Pass (if b then [] else number_tests low high column c) → ForSome (if b then None else Some (number_of c)) (λ n. n ≤ high)
    go true h n e = absurd (none-some n e)
    go false h n e = subst (λ m. m ≤ high) (same_Some (number_of c) n e) (in_range _ c low high h).1

-- the place of a name that is known, or empty
place_below : (names : List (List ℕ)) (name : List ℕ) → KnownOrNone names name → ForSome (place_or_none names name) (λ n. n < length names)
place_below names name known = go (is_blank name) known
  where
    go : (b : Bool) → (b ≡ false → place_in names name < length names) → ForSome (if b then None else Some (place_in names name)) (λ n. n < length names)
    go true h n e = absurd (none-some n e)
    go false h n e = subst (λ m. m < length names) (same_Some (place_in names name) n e) (h refl)

-- a well spelled name has no fault of spelling
well_spelled : (name : List ℕ) → is_name name ≡ true → spelling_fault name ≡ None
well_spelled name h =
    let (sized, bytes) = and_parts (not (nat_eq (length name) 0) && nat_le (length name) MAX_NAME_BYTES) (list_all is_name_byte name) h in
    let (some, few) = and_parts (not (nat_eq (length name) 0)) (nat_le (length name) MAX_NAME_BYTES) sized in
    let there : nat_eq (length name) 0 ≡ false = not-true _ some in
    let short : nat_lt MAX_NAME_BYTES (length name) ≡ false = le-ltb MAX_NAME_BYTES (length name) (leb-true (length name) MAX_NAME_BYTES few) in
    rw (there, short, bytes) refl

-- ---- a record that passes its tests

module _ (e : Election) (is : IsElection e) (r : Record) where
  joins_house : Pass (house_tests e r) → IsElection (with_kind (Some kind.House) e r)
  joins_house h =
      let range = in_range _ (cell r A) 1 MAX_SEATS (passed_house e r h).seats in
      is_with_house e (number_of (cell r A)) is range.0 range.1

  joins_land : Pass (land_tests e r) → IsElection (with_kind (Some kind.Land) e r)
  joins_land h =
      let passed = passed_land e r h in
      let range = in_range _ (cell r A) 0 MAX_VOTES passed.people in
      is_with_land e (cell r LAND) (number_of (cell r A)) is (may_join _ e.land_names MAX_LANDS (cell r LAND) passed.name passed.free) range.1

  joins_party : Pass (party_tests e r) → IsElection (with_kind (Some kind.Party) e r)
  joins_party h =
      let passed = passed_party e r h in
      is_with_party e (cell r PARTY) _ is (may_join _ e.party_names MAX_PARTIES (cell r PARTY) passed.name passed.free)

  joins_list : (v : Version) → Pass (list_tests v e r) → IsElection (with_kind (Some kind.List) e r)
  joins_list v h =
      let passed = passed_list e r v h in
      is_with_list e _ _ (votes_of r) is passed.named.land passed.named.party (record {
        counted = leb-true (number_of (cell r B)) (number_of (cell r A)) passed.within;
        valid = (in_range _ (cell r A) 0 MAX_VOTES passed.valid).1;
        slate = in_range_or_none _ (cell r C) 0 MAX_SLATE passed.slate;
      })

  joins_win : Pass (win_tests e r) → IsElection (with_kind (Some kind.Win) e r)
  joins_win h =
      let passed = passed_win e r h in
      let few = passed.free in
      let free : length e.win_names < MAX_WINS = omega (arith, is.wins, few) in
      is_with_win e (cell r A) _ is (may_join _ e.win_names MAX_WINS (cell r A) passed.name free) (record {
        land = passed.backed.land;
        party = place_below e.party_names (cell r PARTY) passed.backed.party;
        least = (in_range _ (cell r B) 1 MAX_VOTES passed.first).0;
        most = leb-true (number_of (cell r B)) (number_of (cell r C)) passed.within;
        valid = (in_range _ (cell r C) 0 MAX_VOTES passed.valid).1;
      })

  joins_lot : Pass (lot_tests e r) → IsElection (with_kind (Some kind.Lot) e r)
  joins_lot h =
      let passed = passed_lot e r h in
      is_with_lot e _ is passed.free (record {
        stage = well_spelled (cell r A) passed.stage;
        land = place_below e.land_names (cell r LAND) passed.drawn.land;
        party = place_below e.party_names (cell r PARTY) passed.drawn.party;
        win = place_below e.win_names (cell r B) passed.drawn.win;
      })

  joins_kind : (v : Version) (k : Kind) → Pass (kind_tests v (Some k) e r) → IsElection (with_kind (Some k) e r)
  joins_kind v kind.House h = joins_house h
  joins_kind v kind.Land h = joins_land h
  joins_kind v kind.Party h = joins_party h
  joins_kind v kind.List h = joins_list v h
  joins_kind v kind.Win h = joins_win h
  joins_kind v kind.Lot h = joins_lot h

  joins_record : (v : Version) → Pass (record_tests v e r) → IsElection (with_record e r)
  joins_record v h = by (kind_named (cell r KIND)) refl (parts (sized_test r) (kind_tests v (kind_named (cell r KIND)) e r) h).1
    where
      by : (k : Option Kind) → kind_named (cell r KIND) ≡ k → Pass (kind_tests v k e r) → IsElection (with_record e r)
      by None named h = absurd (false≢true (holds false (of_cell fault.Kind KIND) h))
      by (Some k) named h = subst (λ (x : Option Kind). IsElection (with_kind x e r)) (sym named) (joins_kind v k h)

-- ---- all records

unmapped : {X Y : Type 0} (f : X → Y) (o : Option X) → option_map f o ≡ None → o ≡ None
unmapped f None h = refl
unmapped f (Some x) h = absurd (none-some (f x) (sym h))

neither : {X : Type 0} (a b : Option X) → option_or a b ≡ None → (a ≡ None) × (b ≡ None)
neither None b h = (refl, h)
neither (Some x) b h = absurd (none-some x (sym h))

no_names : (limit : ℕ) → IsNameList (record { limit = limit; names = [] })
no_names limit = record { within = omega arith; spelled = All-nil (λ name. IsTrue (is_name name)); once = λ name i j a b. absurd (none-some name a) }

nothing_is : IsElection (election_of_records [])
nothing_is = search (arith, no_names, All-nil, none-some)

election_behind : (v : Version) (before rest : List Record) → IsGood before → IsElection (election_of_records before) → first_fault v before rest ≡ None
    → IsElection (election_of_records (before ++ rest))
election_behind v before [] good is h = subst (λ rs. IsElection (election_of_records rs)) (sym (append-nil before)) is
election_behind v before (x ∷ rest) good is h =
    let (none, more) = neither (fault_behind v before x) (first_fault v (before ++ x ∷ []) rest) h in
    let passed : Pass (record_tests v (election_of_records before) x) = record { none = unmapped (fault_at (row_behind (length before + 1))) (first_failing (record_tests v (election_of_records before) x)) none } in
    let next = grows before x good v passed in
    let joined : IsElection (election_of_records (before ++ x ∷ [])) = subst IsElection (sym next.election) (joins_record (election_of_records before) is x v passed) in
    subst (λ rs. IsElection (election_of_records rs)) (append_assoc before (x ∷ []) rest) (election_behind v (before ++ x ∷ []) rest next.good joined more)

behind : (rs : List Record) → refusal_of rs ≡ None → IsElection (election_of_records (behind_header rs))
behind [] accepted = nothing_is
behind (r ∷ rest) accepted = let is = sound r rest accepted in election_behind is.version [] rest no_records nothing_is is.none

-- what is read is an election
pub read_is : (rs : List Record) (e : Election) → returns_of rs ≡ Ok e → IsElection e
read_is rs e h =
    subst IsElection (sym (makes rs e h).election) (behind rs (neither (refusal_of rs) (lack_of rs) (go (option_or (refusal_of rs) (lack_of rs)) h)).0)
  where
    go : (o : Option ReturnsFault) → unless o (election_of_records (behind_header rs)) ≡ Ok e → o ≡ None
    go None h = refl
    go (Some f) h = absurd (false≢true (ap is_ok h))
