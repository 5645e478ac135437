-- What is shown of a count, by what is asked for (docs/output.md).
use Rattle.std.specs.Prelude.{Err, List, Ok, Option, Result, ℕ}
use Rattle.sl_count_calls.specs.Counting.{IsOutput, ReadsReturns, ShowsSeats}
use Rattle.sl_count_calls.specs.Showing.{IsStageOutput, ReadsBehindStage}
use Rattle.sl_count_calls.specs.Steps.{ShowsSteps}
use Rattle.sl_count_calls.specs.declared.view.View.TheVariants.{Seats, Stage, Steps}
use Rattle.sl_count_calls.specs.declared.view.View.{View}
use Rattle.sl_count_calls.specs.declared.showing.Shown.{Shown}
use Rattle.sl_count_inputs.specs.Books.{BookInput}
use Rattle.sl_count_inputs.specs.declared.status.DeskError.{DeskError}
use Rattle.sl_count_inputs.specs.declared.status.Status.{Status}

-- what is written: that of `count`, of `steps`, or of `stage` with the name
abbrev pub IsShownOutput : View → BookInput → List ℕ → Status → List ℕ → Type 0
IsShownOutput Seats = IsOutput ShowsSeats
IsShownOutput Steps = IsOutput ShowsSteps
IsShownOutput (Stage name) = IsStageOutput name.now

-- what is read of the returns: as by `stage` where a stage is shown, and else as by `count`
abbrev pub ReadsBehindShown : {R X : Type 0} → View → (R → Option (List ℕ)) → Option BookInput → R → R → Result X DeskError → Type 0
ReadsBehindShown (Stage name) = ReadsBehindStage name.now
ReadsBehindShown _ = ReadsReturns

-- the status with which a count was shown
abbrev pub status_in : Result Shown DeskError → Result Status DeskError
status_in (Ok shown) = Ok shown.status
status_in (Err error) = Err error
