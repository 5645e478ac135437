-- The texts of a count that ends with a table.
use Rattle.std.specs.Prelude.{List, Some, length, slice_get, ◌<◌, ◌≡◌, ℕ}
use Rattle.sl_count_calls.specs.Outcomes.{code_names}
use Rattle.sl_count_calls.specs.declared.counting.Counting.{Counting}
use Rattle.sl_law_meaning.specs.meaning.Counts.{IsMeantEnd}
use Rattle.sl_law_meaning.specs.declared.count.Column.{Column}
use Rattle.sl_law_meaning.specs.declared.count.Counted.{Counted}
use Rattle.sl_law_meaning.specs.declared.count.Records.TheVariants.{Kept}
use Rattle.sl_law_meaning.specs.declared.count.Records.{Records}
use Rattle.sl_count_calls.specs.declared.report.Report.TheVariants.{Seats, Stage, Steps}
use Rattle.sl_count_calls.specs.declared.report.Report.{Report}
use Rattle.sl_code_instructions.specs.Codes.{CountingCode}
use Rattle.sl_law_meaning.specs.book.Books.{book_of}
use Rattle.sl_law_meaning.specs.book.Trees.{BookTree}
use Rattle.sl_law_meaning.specs.returns.Election.{Election}
use Rattle.sl_table.specs.Stages.{stage_text}
use Rattle.sl_count_texts.specs.Short.{short_text}
use Rattle.sl_count_texts.specs.Steps.{IsStepsText}

-- a book has the stage that is asked for
abbrev pub HasStage : Report → BookTree → Type 0
HasStage (Stage n) tree = n < length tree.stages
HasStage _ tree = Unit {0}

-- there is a column of it
abbrev pub HasColumn : Report → Counted → Type 0
HasColumn (Stage n) c = n < length c.columns.items
HasColumn _ c = Unit {0}

-- steps are reported where they are kept
abbrev pub SuitsReport : Report → Records → Type 0
SuitsReport Steps r = r ≡ Kept
SuitsReport _ r = Unit {0}

-- how it ends is what its book means on its returns
abbrev pub IsMeant : Counting → Type 0
IsMeant c = IsMeantEnd c.records (book_of c.book.book) c.returns c.outcome.end

-- the text of the column of a stage
abbrev pub IsColumnOf : Election → List Column → ℕ → List ℕ → Type 0
IsColumnOf e columns n output = (c : Column) × (slice_get columns n ≡ Some c) × (output ≡ stage_text e c.shape c.cells.items)

abbrev pub IsCountedText : Report → CountingCode → Election → Counted → List ℕ → Type 0
IsCountedText Seats c e x output = output ≡ short_text x.table e
IsCountedText Steps c e x output = IsStepsText (code_names c) x.table e output
IsCountedText (Stage n) c e x output = IsColumnOf e x.columns.items n output
