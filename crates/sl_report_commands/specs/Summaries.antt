-- What `totals` answers, by what its inputs come to (docs/report.md).
use Rattle.std.specs.Prelude.{Bool, None, Option, Some, false, true}
use Rattle.sl_count_inputs.specs.Books.{book_line}
use Rattle.sl_count_inputs.specs.Judging.{refusal_of, returns_refusal_of}
use Rattle.sl_count_inputs.specs.Returns.{returns_line}
use Rattle.sl_count_inputs.specs.declared.refused_book.RefusedBook.{RefusedBook}
use Rattle.sl_count_inputs.specs.declared.refused_election.RefusedElection.{RefusedElection}
use Rattle.sl_count_inputs.specs.declared.verdict.Verdict.TheVariants.{Good, Refused}
use Rattle.sl_count_inputs.specs.declared.verdict.Verdict.{Verdict}
use Rattle.sl_law_meaning.specs.declared.book.Book.{Book}
use Rattle.sl_law_meaning.specs.declared.checked.CheckedBook.{CheckedBook}
use Rattle.sl_law_meaning.specs.returns.Election.{Election}
use Rattle.sl_report_tables.specs.Answers.{HasTables, IsRefusal, IsRefusedBy}
use Rattle.sl_report_tables.specs.Totals.{AreTotals}
use Rattle.sl_report_tables.specs.declared.answer.Answer.{Answer}

-- the totals of good returns, with a good rulebook if one is given; or a refusal of the names
abbrev pub IsNamedTotals : (are_refused : Bool) → Option Book → Election → Answer → Type 0
IsNamedTotals false book e a = HasTables e (AreTotals book e) a
IsNamedTotals true book e a = IsRefusal a

-- or of the returns
abbrev pub IsTotalsOn : (are_refused : Bool) → Option Book → Verdict Election RefusedElection → Answer → Type 0
IsTotalsOn are_refused book (Good e) a = IsNamedTotals are_refused book e a
IsTotalsOn are_refused book (Refused why) a = IsRefusedBy (returns_line (returns_refusal_of why)) a

-- or, before all, of the rulebook
abbrev pub IsTotalsBy : (are_refused : Bool) → Option (Verdict CheckedBook RefusedBook) → Verdict Election RefusedElection → Answer → Type 0
IsTotalsBy are_refused None returns a = IsTotalsOn are_refused None returns a
IsTotalsBy are_refused (Some (Good checked)) returns a = IsTotalsOn are_refused (Some checked.book) returns a
IsTotalsBy are_refused (Some (Refused why)) returns a = IsRefusedBy (book_line (refusal_of why)) a
