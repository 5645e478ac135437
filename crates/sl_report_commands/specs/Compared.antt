-- What `compare` shows of good rulebooks on good returns (docs/report.md).
use Rattle.std.specs.List.{AllZip}
use Rattle.std.specs.Prelude.{List, None, Option, Some, ◌≡◌}
use Rattle.sl_report_commands.specs.declared.comparison.Compared.{Compared}
use Rattle.sl_report_forms.specs.Tables.{Table}
use Rattle.sl_report_tables.specs.Compare.{AreComparison}
use Rattle.sl_report_tables.specs.declared.compare.Judged.{Judged}
use Rattle.sl_law_meaning.specs.book.Books.{book_of}
use Rattle.sl_law_meaning.specs.declared.count.Counted.{Counted as Kept}
use Rattle.sl_law_meaning.specs.declared.count.End.TheVariants.{Counted, Fault}
use Rattle.sl_law_meaning.specs.declared.count.End.{End}
use Rattle.sl_law_meaning.specs.declared.count.Records.TheVariants.{Dropped}
use Rattle.sl_law_meaning.specs.declared.fault.LegalFault.{LegalFault}
use Rattle.sl_law_meaning.specs.meaning.Counts.{IsMeantEnd}
use Rattle.sl_law_meaning.specs.returns.Election.{Election}

abbrev pub counted_of : End → Option Kept
counted_of (Counted c) = Some c
counted_of (Fault f) = None

abbrev pub fault_of : End → Option LegalFault
fault_of (Counted c) = None
fault_of (Fault f) = Some f

-- the book by its word, with what it means on the returns
pub record IsComparedTo (e : Election) (c : Compared) (j : Judged) : Type 0 where
  pub word : j.word ≡ c.word
  pub book : j.book.book ≡ c.book.book
  pub end : End
  pub meant : IsMeantEnd Dropped (book_of c.book.book) e end
  pub counted : j.counted ≡ counted_of end
  pub fault : j.fault ≡ fault_of end

-- the tables of the books, each with what it means on the returns
abbrev pub ShowsCompared : Election → List Compared → List Table → Type 0
ShowsCompared e books tables = (all : List Judged) × AllZip (IsComparedTo e) books all × AreComparison e all tables
