-- The cells that are to be empty, tested one after the other.
use Rattle.std.proofs.Common.{◌≡◌, ◌≤◌, ◌<◌, ◌+◌, ℕ, [], ◌∷◌, ◌++◌, drop, length, refl, ap, ◌∙◌, arith}
use Rattle.std.proofs.lemmas.List.{drop_all, drop_more}
use Rattle.sl_returns.specs.declared.schema.TheConstants.{COLUMNS}
use Rattle.sl_returns.specs.declared.schema.Content.TheVariants as content
use Rattle.sl_returns.specs.declared.schema.Kind.{Kind}
use Rattle.sl_returns.specs.declared.schema.Kind.TheVariants as kind
use Rattle.sl_returns.specs.declared.fault.RecordFault.{RecordFault}
use Rattle.sl_returns.specs.Cells.{Record, cell}
use Rattle.sl_returns.specs.Schema.{contents, content_of}
use Rattle.sl_returns.specs.Tests.{Tests, Pass, FailBy, blanks, blanks_from, empty_tests}
use Rattle.sl_returns.proofs.TestLemmas.{passes, fails}
use Rattle.sl_base_terms.specs.Tests.{first_failing}

five : (k : Kind) → length (contents k) ≡ 5
five kind.House = refl
five kind.Land = refl
five kind.Party = refl
five kind.List = refl
five kind.Win = refl
five kind.Lot = refl

-- the tests of the columns that are left
abbrev pub blanks_left : Kind → Record → ℕ → Tests
blanks_left k r column = blanks_from r column (drop column (content.Kind ∷ contents k))

pub next : (k : Kind) (r : Record) (column : ℕ) → column < COLUMNS → blanks_left k r column ≡ empty_tests (content_of k column) column (cell r column) ++ blanks_left k r (column + 1)
next k r column l = ap (blanks_from r column) (drop_more (content.Kind ∷ contents k) column content.Blank (omega (arith, five k, l)))

pub none_left : (k : Kind) (r : Record) (column : ℕ) → COLUMNS ≤ column → blanks_left k r column ≡ []
none_left k r column l = ap (blanks_from r column) (drop_all column (content.Kind ∷ contents k) (omega (arith, five k, l)))

-- where the tests up to a column hold, those that are left decide
abbrev pub ArePassed : Kind → Record → ℕ → Type 0
ArePassed k r column = first_failing (blanks k r) ≡ first_failing (blanks_left k r column)

pub one_more : (k : Kind) (r : Record) (column : ℕ) → column < COLUMNS → ArePassed k r column → Pass (empty_tests (content_of k column) column (cell r column)) → ArePassed k r (column + 1)
one_more k r column l before passed = before ∙ ap first_failing (next k r column l) ∙ passes (empty_tests (content_of k column) column (cell r column)) (blanks_left k r (column + 1)) passed

pub one_fails : (k : Kind) (r : Record) (column : ℕ) (f : RecordFault) → column < COLUMNS → ArePassed k r column → FailBy (empty_tests (content_of k column) column (cell r column)) f → FailBy (blanks k r) f
one_fails k r column f l before failed = record {
  first = before ∙ ap first_failing (next k r column l) ∙ fails (empty_tests (content_of k column) column (cell r column)) (blanks_left k r (column + 1)) f failed;
}

pub all_hold : (k : Kind) (r : Record) (column : ℕ) → COLUMNS ≤ column → ArePassed k r column → Pass (blanks k r)
all_hold k r column l before = record { none = before ∙ ap first_failing (none_left k r column l) }
