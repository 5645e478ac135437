-- What the records of one kind say, as what every record says.
use Rattle.std.proofs.Common.{◌≡◌, Option, None, Result, Ok, Err, IfErr, OnOk, inl, inr, refl, subst}
use Rattle.sl_law_meaning.specs.returns.Election.{Election}
use Rattle.sl_returns.specs.declared.schema.TheConstants.{KIND}
use Rattle.sl_returns.specs.declared.header.Version.{Version}
use Rattle.sl_returns.specs.declared.schema.Kind.{Kind}
use Rattle.sl_returns.specs.declared.fault.RecordFault.{RecordFault}
use Rattle.sl_returns.specs.declared.fault.FaultKind.TheVariants as fault
use Rattle.sl_returns.specs.Cells.{Record, cell}
use Rattle.sl_returns.specs.Faults.{of_cell}
use Rattle.sl_returns.specs.Schema.{kind_named}
use Rattle.sl_returns.specs.Tests.{Pass, FailBy, Refuse, one_test, sized_test, kind_tests, record_tests}
use Rattle.sl_returns.specs.inner.Joining.{with_kind, with_record}
use Rattle.sl_returns.proofs.TestLemmas.{both, after}

-- a record has its cells
abbrev pub Sized : Record → Type 0
Sized r = Pass (sized_test r)

module _ (v : Version) (e new : Election) (r : Record) (kind : Option Kind) (named : kind ≡ kind_named (cell r KIND)) (sized : Sized r) where
  passed : Pass (kind_tests v kind e r) → Pass (record_tests v e r)
  passed h = both sized (subst (λ (k : Option Kind). Pass (kind_tests v k e r)) named h)

  failed : (k : RecordFault) → FailBy (kind_tests v kind e r) k → FailBy (record_tests v e r) k
  failed k h = after sized (subst (λ (x : Option Kind). FailBy (kind_tests v x e r) k) named h)

  pub joined_by : (answer : Result (Unit {0}) RecordFault) → OnOk answer (Pass (kind_tests v kind e r) × (new ≡ with_kind kind e r)) → OnOk answer (Pass (record_tests v e r) × (new ≡ with_record e r))
  joined_by (Ok u) h = (passed h.0, subst (λ (k : Option Kind). new ≡ with_kind k e r) named h.1)
  joined_by (Err k) h = tt

  refused : (k : RecordFault) → Refuse (kind_tests v kind e r) k → Refuse (record_tests v e r) k
  refused k h = elim h [ inl f ↦ inl (failed k f) | inr f ↦ inr (passed f.0, f.1) ]

  pub refused_by : (answer : Result (Unit {0}) RecordFault) → IfErr answer (Refuse (kind_tests v kind e r)) → IfErr answer (Refuse (record_tests v e r))
  refused_by (Ok u) h = tt
  refused_by (Err k) h = refused k h

-- a word that names no kind
pub no_kind : (v : Version) (e : Election) (r : Record) → None ≡ kind_named (cell r KIND) → Sized r → FailBy (record_tests v e r) (of_cell fault.Kind KIND)
unfolding one_test
no_kind v e r named sized = failed v e e r None named sized (of_cell fault.Kind KIND) (record { first = refl })
