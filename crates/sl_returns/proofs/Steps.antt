-- A record that passes its tests, after good records.
use Rattle.std.proofs.Common.{◌≡◌, ◌++◌, ℕ, List, [], ◌∷◌, Option, Some, None, IsTrue, false, refl, sym, ap, subst, ◌∙◌, arith}
use Rattle.std.proofs.lemmas.Bool.{false≢true}
use Rattle.std.proofs.lemmas.List.Elements.{All-nil}
use Rattle.std.proofs.lemmas.Option.{none-some}
use Rattle.sl_base_quotients.specs.Names.{IsNameList, is_name}
use Rattle.sl_base_quotients.specs.declared.limits.TheConstants.{MAX_LANDS, MAX_PARTIES}
use Rattle.sl_law_meaning.specs.returns.Election.{Election}
use Rattle.sl_returns.specs.declared.schema.TheConstants.{KIND, LAND, PARTY}
use Rattle.sl_returns.specs.declared.header.Version.{Version}
use Rattle.sl_returns.specs.declared.schema.Kind.{Kind}
use Rattle.sl_returns.specs.declared.schema.Kind.TheVariants as kind
use Rattle.sl_returns.specs.declared.fault.FaultKind.TheVariants as fault
use Rattle.sl_returns.specs.Cells.{Record, cell, number_in}
use Rattle.sl_returns.specs.Faults.{of_cell}
use Rattle.sl_returns.specs.Schema.{kind_named}
use Rattle.sl_returns.specs.Records.{election_of_records}
use Rattle.sl_returns.specs.Tests.{Pass, sized_test, kind_tests, record_tests}
use Rattle.sl_returns.specs.inner.Joining.{with_record}
use Rattle.sl_returns.specs.inner.Joining as joining
use Rattle.sl_returns.proofs.TestLemmas.{parts, holds}
use Rattle.sl_returns.proofs.NameTests.{is_new, may_join}
use Rattle.sl_returns.proofs.Rows.{NamesKnown}
use Rattle.sl_returns.proofs.ToldVotes.{no_lists_told}
use Rattle.sl_returns.proofs.Growing.{Sorted, AreGood, BackedByKnown, DrawnOfKnown, election_from, election_with_house, election_with_land, election_with_party, election_with_list, election_with_win, election_with_lot, good_with_land, good_with_party, good_with_list, good_with_win, good_with_lot}
use Rattle.sl_returns.proofs.PassedTests.{passed_house, passed_land, passed_party, passed_list, passed_win, passed_lot}
use Rattle.sl_returns.proofs.Sorting.{sorted, sorted_with, with_kind}

-- good records
pub record IsGood (rs : List Record) : Type 0 where
  pub kept : AreGood (sorted rs)

empty_names : (limit : ℕ) → IsNameList (record { limit = limit; names = [] })
empty_names limit = record {
  within = omega arith;
  spelled = All-nil (λ name. IsTrue (is_name name));
  once = λ name i j a b. absurd (none-some name a);
}

pub no_records : IsGood []
no_records = record {
  kept = record {
    lands_once = empty_names MAX_LANDS;
    parties_once = empty_names MAX_PARTIES;
    lists_known = All-nil (NamesKnown [] []);
    votes_told = no_lists_told;
    winners_known = All-nil (BackedByKnown [] []);
    lots_known = All-nil (DrawnOfKnown [] [] []);
  };
}

-- what a record adds to good ones
pub record Grows (rs : List Record) (r : Record) : Type 0 where
  pub good : IsGood (rs ++ r ∷ [])
  pub election : election_of_records (rs ++ r ∷ []) ≡ with_record (election_of_records rs) r

-- what a record of a kind adds to sorted ones
record GrowsSorted (k : Kind) (s : Sorted) (r : Record) : Type 0 where
  good : AreGood (with_kind k s r)
  election : election_from (with_kind k s r) ≡ joining.with_kind (Some k) (election_from s) r

module _ (s : Sorted) (r : Record) (good : AreGood s) where
  abbrev e : Election
  e = election_from s

  sorted_grows : (v : Version) (k : Kind) → Pass (kind_tests v (Some k) e r) → GrowsSorted k s r
  sorted_grows v kind.House h = record { good = good; election = election_with_house s good r (passed_house e r h).new }
  sorted_grows v kind.Land h =
      let passed = passed_land e r h in
      let new = (is_new _ (cell r LAND) (number_in e.land_names (cell r LAND)) passed.name).new in
      let may = may_join _ e.land_names MAX_LANDS (cell r LAND) passed.name passed.free in
      record { good = good_with_land s good r new may; election = election_with_land s good r new may }
  sorted_grows v kind.Party h =
      let passed = passed_party e r h in
      let new = (is_new _ (cell r PARTY) (number_in e.party_names (cell r PARTY)) passed.name).new in
      let may = may_join _ e.party_names MAX_PARTIES (cell r PARTY) passed.name passed.free in
      record { good = good_with_party s good r new passed.free may; election = election_with_party s good r new passed.free may }
  sorted_grows v kind.List h =
      let passed = passed_list e r v h in
      record { good = good_with_list s good r passed.named passed.new; election = election_with_list s good r passed.named passed.new }
  sorted_grows v kind.Win h =
      let backed = (passed_win e r h).backed in
      record { good = good_with_win s good r backed; election = election_with_win s good r backed }
  sorted_grows v kind.Lot h =
      let drawn = (passed_lot e r h).drawn in
      record { good = good_with_lot s good r drawn; election = election_with_lot s good r drawn }

module _ (rs : List Record) (r : Record) (good : IsGood rs) (v : Version) where
  abbrev before : Election
  before = election_of_records rs

  kind_grows : (k : Kind) → kind_named (cell r KIND) ≡ Some k → Pass (kind_tests v (Some k) before r) → Grows rs r
  kind_grows k named h =
      let grown = sorted_grows (sorted rs) r good.kept v k h in
      let more = sorted_with rs r k named in
      record {
        good = record { kept = subst AreGood (sym more) grown.good };
        election = ap election_from more ∙ grown.election ∙ ap (λ x. joining.with_kind x before r) (sym named);
      }

  -- a record that passes its tests joins good ones
  pub grows : Pass (record_tests v before r) → Grows rs r
  grows h =
      let (sized, rest) = parts (sized_test r) (kind_tests v (kind_named (cell r KIND)) before r) h in
      by (kind_named (cell r KIND)) refl rest
    where
      by : (k : Option Kind) → kind_named (cell r KIND) ≡ k → Pass (kind_tests v k before r) → Grows rs r
      by None named h = absurd (false≢true (holds false (of_cell fault.Kind KIND) h))
      by (Some k) named h = kind_grows k named h
