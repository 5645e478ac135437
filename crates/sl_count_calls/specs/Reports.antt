-- What each report shows of a table (docs/output.md).
use Rattle.std.specs.Prelude.{ℕ, List}
use Rattle.sl_law_meaning.specs.book.Trees.{BookTree}
use Rattle.sl_law_meaning.specs.meaning.Tables.{SeatTable}
use Rattle.sl_law_meaning.specs.returns.Election.{Election}
use Rattle.sl_count_calls.specs.declared.report.Report.{Report}
use Rattle.sl_count_calls.specs.declared.report.Report.TheVariants.{Seats, Steps, Stage}
use Rattle.sl_count_calls.specs.Showing.{ShowsColumn}
use Rattle.sl_count_calls.specs.Counting.{ShowsSeats}
use Rattle.sl_count_calls.specs.Steps.{ShowsSteps}

-- its seats, the step of each seat, or the column of a stage
abbrev pub IsReported : Report → BookTree → Election → SeatTable → List ℕ → Type 0
IsReported Seats = ShowsSeats
IsReported Steps = ShowsSteps
IsReported (Stage n) = ShowsColumn n
